-- Moving goes through what answers are made with.
-- Assumes nothing.
use Prim.Native.Nat.{ℕ}
use mathlib.Core.Path.{◌≡◌, refl}
use mathlib.Core.Bool.{Bool, true, false, cond}
use mathlib.Core.List.{List, [], ◌∷◌, map}
use mathlib.Core.Option
use mathlib.Core.Option.{Option, some, none}
use Rattle.reading.specs.Statement.{Name}
use Rattle.reading.specs.Answer.{Answer, accepted, refused, ◌>>=◌}
use Rattle.reading.specs.Argument.{Arg}
use Rattle.reading.specs.Feature.{one, one_or_two, two, three_or_four, mandatory, optionally}
use Rattle.reading_laws.specs.Moved.{move_name, move_arg, move_answer, Moves}

-- one thing or another, by a test
pub either : {A B : Type 0} (f : A → B) (t : Bool) {x y : B} (v w : A) → x ≡ f v → y ≡ f w → cond t x y ≡ f (cond t v w)
either f true v w e h = e
either f false v w e h = h

-- answers that are moved both are moved under a test
pub cond_moved :
    {A B : Type 0} {to : ℕ → ℕ} {r : A → B} {x y : Answer B} {v w : Answer A} (t : Bool)
    → Moves to r x v
    → Moves to r y w
    → Moves to r (cond t x y) (cond t v w)
cond_moved true e h = e
cond_moved false e h = h

-- both values, or both refused
pub stands : {A B : Type 0} {to : ℕ → ℕ} {r : A → B} {b : B} {a : A} → b ≡ r a → Moves to r (accepted b) (accepted a)
stands e = record { is = simp e }

pub falls : {A B : Type 0} {to : ℕ → ℕ} {r : A → B} {n p : ℕ} → Moves to r (refused n (to p)) (refused n p)
falls = record { is = refl }

-- The first refusal stands; a moved value goes on to what comes next.
pub bind_moved :
    {A B C D : Type 0} {to : ℕ → ℕ} {r : A → B} {q : C → D} {after : Answer B} {before : Answer A} {f : A → Answer C} (g : B → Answer D)
    → Moves to r after before
    → ((a : A) → Moves to q (g (r a)) (f a))
    → Moves to q (after >>= g) (before >>= f)
bind_moved {to} {r} {q} {before} {f} g e h = record { is = simp e.is (go before) }
  where
    go : (m : Answer _) → (move_answer to r m >>= g) ≡ move_answer to q (m >>= f)
    go (accepted a) = (h a).is
    go (refused n p) = refl

module _ {A B : Type 0} {to : ℕ → ℕ} {r : A → B} (k : Name) where
  -- one argument, two, one or two, three or four: a wrong number is refused at the keyword
  pub one_moved :
      {f : Arg → Answer A} (g : Arg → Answer B) (args : List Arg)
      → ((a : Arg) → Moves to r (g (move_arg to a)) (f a))
      → Moves to r (one (move_name to k) (map (move_arg to) args) g) (one k args f)
  one_moved g [] h = falls
  one_moved g (a ∷ []) h = h a
  one_moved g (a ∷ b ∷ cs) h = falls

  pub two_moved :
      {f : Arg → Arg → Answer A} (g : Arg → Arg → Answer B) (args : List Arg)
      → ((a b : Arg) → Moves to r (g (move_arg to a) (move_arg to b)) (f a b))
      → Moves to r (two (move_name to k) (map (move_arg to) args) g) (two k args f)
  two_moved g [] h = falls
  two_moved g (a ∷ []) h = falls
  two_moved g (a ∷ b ∷ []) h = h a b
  two_moved g (a ∷ b ∷ c ∷ ds) h = falls

  pub one_or_two_moved :
      {f : Arg → Option Arg → Answer A} (g : Arg → Option Arg → Answer B) (args : List Arg)
      → ((a : Arg) (b : Option Arg) → Moves to r (g (move_arg to a) (Option.map (move_arg to) b)) (f a b))
      → Moves to r (one_or_two (move_name to k) (map (move_arg to) args) g) (one_or_two k args f)
  one_or_two_moved g [] h = falls
  one_or_two_moved g (a ∷ []) h = h a none
  one_or_two_moved g (a ∷ b ∷ []) h = h a (some b)
  one_or_two_moved g (a ∷ b ∷ c ∷ ds) h = falls

  pub three_or_four_moved :
      {f : Arg → Arg → Arg → Option Arg → Answer A} (g : Arg → Arg → Arg → Option Arg → Answer B) (args : List Arg)
      → ((a b c : Arg) (e : Option Arg)
      → Moves to r (g (move_arg to a) (move_arg to b) (move_arg to c) (Option.map (move_arg to) e)) (f a b c e))
      → Moves to r (three_or_four (move_name to k) (map (move_arg to) args) g) (three_or_four k args f)
  three_or_four_moved g [] h = falls
  three_or_four_moved g (a ∷ []) h = falls
  three_or_four_moved g (a ∷ b ∷ []) h = falls
  three_or_four_moved g (a ∷ b ∷ c ∷ []) h = h a b c none
  three_or_four_moved g (a ∷ b ∷ c ∷ e ∷ []) h = h a b c (some e)
  three_or_four_moved g (a ∷ b ∷ c ∷ e ∷ u ∷ us) h = falls

  -- a `?` that may not stand is refused at the keyword
  pub mandatory_moved : {y : B} (x : A) (m : Bool) → y ≡ r x → Moves to r (mandatory (move_name to k) m y) (mandatory k m x)
  mandatory_moved x true e = falls
  mandatory_moved x false e = stands e

-- an argument that may be left out
pub optionally_moved :
    {A B : Type 0} {to : ℕ → ℕ} {r : A → B} {f : Arg → Answer A} (g : Arg → Answer B) (b : Option Arg)
    → ((a : Arg) → Moves to r (g (move_arg to a)) (f a))
    → Moves to (Option.map r) (optionally g (Option.map (move_arg to) b)) (optionally f b)
optionally_moved g none h = stands refl
optionally_moved g (some a) h = bind_moved _ (h a) (λ x. stands refl)
