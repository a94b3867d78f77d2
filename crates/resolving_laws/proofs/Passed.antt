-- What was accepted passed each test before it, what holds of answers, and what each of a list is answered with.
-- Assumes nothing.
use Prim.Native.Nat.{ℕ, suc, ◌≤◌}
use native.Mathlib.Omega.{arith}
use mathlib.Core.Path.{◌≡◌, refl, ap₂, subst}
use mathlib.Core.Bool.{Bool, true, false, cond}
use mathlib.Core.Option.{Option, some, none}
use mathlib.Core.List.{List, [], ◌∷◌}
use lib.Dec.{ltb}
use borrow.Author.Tests.{ltb-false}
use Rattle.reading.specs.Answer.{Answer, accepted, refused, ◌>>=◌}
use Rattle.reading.proofs.Answers.{not-refused, passed_test, bind_passed}
use Rattle.reading_laws.specs.WellFormed.{Gives, given, nothing}
use Rattle.reading_laws.proofs.Giving.{gives_bind}
use Rattle.resolving.specs.Brought.{at_index, each_from}
use Rattle.resolving.specs.Resolve.{at_most_once, up_to}
use Rattle.text.proofs.All.{All, also, finished}

module _ {A : Type 0} {r : A} where
  pub once-passed : (n : ℕ) (o : Option ℕ) (a : Answer A) → at_most_once n o a ≡ accepted r → (o ≡ none) × (a ≡ accepted r)
  once-passed n none a e = (refl, e)
  once-passed n (some i) a e = absurd (not-refused e)

  pub up_to-passed : (limit n : ℕ) (a : Answer A) → up_to limit n a ≡ accepted r → (n ≤ limit) × (a ≡ accepted r)
  up_to-passed limit n a e =
      let h = passed_test (ltb limit n) 18 0 a e in
      (ltb-false limit n h.0, h.1)

pub gives_accepted : {A : Type 0} {P : A → Type 0} {a : Answer A} {x : A} → Gives P a → a ≡ accepted x → P x
gives_accepted {P} {x} (given {a} h) e = let z : a ≡ x = cc in subst P z h
gives_accepted (nothing f) e = absurd (not-refused e)

-- What holds of each answer holds of all.
pub each_gives :
    {A B : Type 0} {P : B → Type 0} (f : A → Answer B) (i : ℕ) {l : List A} → All (λ x. Gives P (f x)) l → Gives (All P) (each_from f i l)
each_gives f i finished = given finished
each_gives {P} f i (also h r) = gives_bind (at_index_lem h) (λ y k. gives_bind (each_gives f (suc i) r) (λ ys ks. given (also k ks)))
  where
    at_index_lem : {C : Type 0} {Q : C → Type 0} {a : Answer C} → Gives Q a → Gives Q (at_index i a)
    at_index_lem (given h) = given h
    at_index_lem (nothing e) = nothing e

-- What each of a list is answered with, in their order.
pub data Each {A B : Type 0} (f : A → Answer B) : List A → List B → Type 0 where
  none_asked : Each f [] []
  answered : {x : A} {y : B} {l : List A} {m : List B} → f x ≡ accepted y → Each f l m → Each f (x ∷ l) (y ∷ m)

pub each_answered : {A B : Type 0} {f : A → Answer B} {l : List A} {m : List B} → Each f l m → (i : ℕ) → each_from f i l ≡ accepted m
each_answered none_asked i = refl
each_answered {B = B} (answered h r) i =
    ap₂
    (λ (a : Answer B) (b : Answer (List B)). at_index i a >>= λ y. b >>= λ ys. accepted (y ∷ ys))
    h
    (each_answered r (suc i))

at_index-passed : {B : Type 0} (i : ℕ) (a : Answer B) {y : B} → at_index i a ≡ accepted y → a ≡ accepted y
at_index-passed i (accepted x) e = e
at_index-passed i (refused n p) e = absurd (not-refused e)

pub answered_each : {A B : Type 0} (f : A → Answer B) (i : ℕ) (l : List A) (m : List B) → each_from f i l ≡ accepted m → Each f l m
answered_each f i [] m e = let z : [] ≡ m = cc in subst (Each f []) z none_asked
answered_each f i (x ∷ l) m e =
    let a = bind_passed (at_index i (f x)) _ e in
    let b = bind_passed (each_from f (suc i) l) _ a.next in
    let q = b.next in
    let z : a.value ∷ b.value ≡ m = cc in
    subst
    (Each f (x ∷ l))
    z
    (answered (at_index-passed i (f x) a.is) (answered_each f (suc i) l b.value b.is))
