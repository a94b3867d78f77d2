-- Answers: one is no refusal and has one value, and what was accepted passed each test and each step before it.
-- Assumes nothing.
use Prim.Native.Nat.{ℕ}
use native.Mathlib.Omega.{arith}
use mathlib.Core.Path.{◌≡◌, refl}
use mathlib.Core.Bool.{Bool, true, false}
use Rattle.reading.specs.Answer.{Answer, accepted, refused, refused_if, ◌>>=◌}

pub not-refused : {A : Type 0} {n p : ℕ} {a : A} → refused n p ≡ accepted a → ⊥
not-refused e = let z : ◌≡◌ {A = ℕ} 0 1 = cc in omega arith

pub value_of : {A : Type 0} {a b : A} → accepted a ≡ accepted b → a ≡ b
value_of e = cc

-- what is accepted behind a test that refuses has passed it
pub passed_test : {A : Type 0} {r : A} (t : Bool) (n p : ℕ) (a : Answer A) → refused_if t n p a ≡ accepted r → (t ≡ false) × (a ≡ accepted r)
passed_test true n p a e = absurd (not-refused e)
passed_test false n p a e = (refl, e)

-- what is accepted behind a step has a value there, and the rest accepts it
pub record Bound {A B : Type 0} (a : Answer A) (f : A → Answer B) (r : B) : Type 0 where
  pub value : A
  pub is : a ≡ accepted value
  pub next : f value ≡ accepted r

pub bind_passed : {A B : Type 0} {r : B} (a : Answer A) (f : A → Answer B) → a >>= f ≡ accepted r → Bound a f r
bind_passed (accepted x) f e = record { value = x; is = refl; next = e }
bind_passed (refused n p) f e = absurd (not-refused e)
