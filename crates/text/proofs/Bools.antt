-- Bools and Options.
-- Assumes nothing.
use Prim.Native.Nat.{ℕ}
use native.Mathlib.Omega.{arith}
use mathlib.Core.Option.{Option, some, none}
use mathlib.Core.Path.{◌≡◌, refl, sym}
use mathlib.Core.Bool.{Bool, true, false, ◌&&◌, ◌||◌}

pub or_swap : (a b c : Bool) → a || (b || c) ≡ b || (a || c)
or_swap true true c = refl
or_swap true false c = refl
or_swap false b c = refl

pub or_swap4 : (a b c d : Bool) → (a || b) || (c || d) ≡ (a || c) || (b || d)
or_swap4 true b c d = refl
or_swap4 false true true d = refl
or_swap4 false true false d = refl
or_swap4 false false true d = refl
or_swap4 false false false d = refl

pub and_sym : (a b : Bool) → a && b ≡ b && a
and_sym true true = refl
and_sym true false = refl
and_sym false true = refl
and_sym false false = refl

-- tests that pass together are equal
pub equally : (a b : Bool) → (a ≡ true → b ≡ true) → (b ≡ true → a ≡ true) → a ≡ b
equally true b f g = sym (f refl)
equally false true f g = g refl
equally false false f g = refl

pub none≢some : {A : Type 0} {x : A} → ◌≡◌ {A = Option A} none (some x) → ⊥
none≢some e = let z : ◌≡◌ {A = ℕ} 0 1 = cc in absurd (omega arith)
