-- What holds of each value that an answer may give, through what answers are made with.
-- Assumes nothing.
use Prim.Native.Nat.{ℕ}
use native.Mathlib.Omega.{arith}
use mathlib.Core.Path.{◌≡◌, refl, subst}
use mathlib.Core.Bool.{Bool, true, false}
use mathlib.Core.List.{List, [], ◌∷◌}
use mathlib.Core.Option.{Option, some, none}
use Rattle.reading.specs.Statement.{Name}
use Rattle.reading.specs.Answer.{Answer, accepted, refused, ◌>>=◌}
use Rattle.reading.specs.Argument.{Arg}
use Rattle.reading.specs.Feature.{one, one_or_two, two, three_or_four, mandatory}
use Rattle.reading_laws.specs.WellFormed.{is_fault, Gives, given, nothing}
use Rattle.reading_laws.specs.Taken.{maybe}

-- The first refusal stands; a value that is as said goes on to what comes next.
pub gives_bind :
    {A B : Type 0} {P : A → Type 0} {Q : B → Type 0} {r : Answer A} {f : A → Answer B}
    → Gives P r
    → ((a : A) → P a → Gives Q (f a))
    → Gives Q (r >>= f)
gives_bind (given h) f = f _ h
gives_bind (nothing e) f = nothing e

-- the value that is given is as said of each that may be
pub value-given : {A : Type 0} {P : A → Type 0} {r : Answer A} {a : A} → Gives P r → r ≡ accepted a → P a
value-given {P} {a} (given {a = b} h) e = let z : b ≡ a = cc in subst P z h
value-given (nothing f) e = let z : ◌≡◌ {A = ℕ} 0 1 = cc in absurd (omega arith)

-- the number of what is refused is a fault's
pub fault_given : {A : Type 0} {P : A → Type 0} {r : Answer A} {n p : ℕ} → Gives P r → r ≡ refused n p → is_fault n ≡ true
fault_given (given h) e = let z : ◌≡◌ {A = ℕ} 0 1 = cc in absurd (omega arith)
fault_given {n} (nothing {n = m} f) e = let z : m ≡ n = cc in subst (λ (k : ℕ). is_fault k ≡ true) z f

-- and whatever follows from what is given
pub gives_more : {A : Type 0} {P Q : A → Type 0} {r : Answer A} → Gives P r → ((a : A) → P a → Q a) → Gives Q r
gives_more (given h) f = given (f _ h)
gives_more (nothing e) f = nothing e

-- one argument, two, one or two, three or four, with what they are
module _ {A : Type 0} (Q : List Arg → A → Type 0) (k : Name) where
  pub one_gives : {f : Arg → Answer A} (args : List Arg) → ((a : Arg) → Gives (Q (a ∷ [])) (f a)) → Gives (Q args) (one k args f)
  one_gives [] h = nothing refl
  one_gives (a ∷ []) h = h a
  one_gives (a ∷ b ∷ cs) h = nothing refl

  pub two_gives :
      {f : Arg → Arg → Answer A} (args : List Arg) → ((a b : Arg) → Gives (Q (a ∷ b ∷ [])) (f a b)) → Gives (Q args) (two k args f)
  two_gives [] h = nothing refl
  two_gives (a ∷ []) h = nothing refl
  two_gives (a ∷ b ∷ []) h = h a b
  two_gives (a ∷ b ∷ c ∷ ds) h = nothing refl

  pub one_or_two_gives :
      {f : Arg → Option Arg → Answer A} (args : List Arg)
      → ((a : Arg) (b : Option Arg) → Gives (Q (a ∷ maybe b)) (f a b))
      → Gives (Q args) (one_or_two k args f)
  one_or_two_gives [] h = nothing refl
  one_or_two_gives (a ∷ []) h = h a none
  one_or_two_gives (a ∷ b ∷ []) h = h a (some b)
  one_or_two_gives (a ∷ b ∷ c ∷ ds) h = nothing refl

  pub three_or_four_gives :
      {f : Arg → Arg → Arg → Option Arg → Answer A} (args : List Arg)
      → ((a b c : Arg) (o : Option Arg) → Gives (Q (a ∷ b ∷ c ∷ maybe o)) (f a b c o))
      → Gives (Q args) (three_or_four k args f)
  three_or_four_gives [] h = nothing refl
  three_or_four_gives (a ∷ []) h = nothing refl
  three_or_four_gives (a ∷ b ∷ []) h = nothing refl
  three_or_four_gives (a ∷ b ∷ c ∷ []) h = h a b c none
  three_or_four_gives (a ∷ b ∷ c ∷ o ∷ []) h = h a b c (some o)
  three_or_four_gives (a ∷ b ∷ c ∷ o ∷ u ∷ us) h = nothing refl

-- a feature that takes no `?`
pub mandatory_gives :
    {A : Type 0} (Q : Bool → A → Type 0) (k : Name) (x : A) (m : Bool) → Q false x → Gives (Q m) (mandatory k m x)
mandatory_gives Q k x true h = nothing refl
mandatory_gives Q k x false h = given h
