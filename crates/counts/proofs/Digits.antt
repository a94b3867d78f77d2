-- Digits and their value. Assumes nothing.
use Prim.Native.Nat.{ℕ, ◌+◌, ◌-◌, ◌*◌, ◌≤◌}
use Prim.Native.Char.{code}
use native.Mathlib.Omega.{arith}
use mathlib.Core.Bool.{Bool, true, and-eq-true_iff, false≢true}
use mathlib.Core.List.{List, [], ◌∷◌, ◌++◌}
use mathlib.Core.Path.{◌≡◌, refl}
use lib.Dec.{leb}
use borrow.Author.Tests.{leb-true}
use Rattle.text.specs.Bytes.{every}
use Rattle.counts.specs.Count.{is_digit, whole, value_after, value}

pub is_digit_bounds : (d : ℕ) → is_digit d ≡ true → (code "0" ≤ d) × (d ≤ code "9")
is_digit_bounds d h =
    let t = (and-eq-true_iff (leb 48 d) (leb d 57)).0 h in
    (leb-true 48 d t.0, leb-true d 57 t.1)

-- a leading zero changes nothing
pub value-zero : (ds : List ℕ) → value (code "0" ∷ ds) ≡ value ds
value-zero ds = refl

-- digits never make a value smaller
pub le-value_after : (n : ℕ) (ds : List ℕ) → n ≤ value_after n ds
le-value_after n [] = omega arith
le-value_after n (d ∷ ds) = omega (arith, le-value_after (n * 10 + (d - code "0")) ds)

-- one digit more at the end
pub value_after_snoc : (n : ℕ) (ds : List ℕ) (d : ℕ) → value_after n (ds ++ d ∷ []) ≡ value_after n ds * 10 + (d - code "0")
value_after_snoc n [] d = refl
value_after_snoc n (x ∷ ds) d = value_after_snoc (n * 10 + (x - code "0")) ds d

every_snoc : (p : ℕ → Bool) (ds : List ℕ) (d : ℕ) → every p ds ≡ true → p d ≡ true → every p (ds ++ d ∷ []) ≡ true
every_snoc p [] d h t = rw t
every_snoc p (x ∷ ds) d h t =
    let k = (and-eq-true_iff (p x) (every p ds)).0 h in
    rw (k.0, every_snoc p ds d k.1 t)

pub whole_snoc : (ds : List ℕ) (d : ℕ) → whole ds ≡ true → is_digit d ≡ true → whole (ds ++ d ∷ []) ≡ true
whole_snoc [] d h t = absurd (false≢true h)
whole_snoc (x ∷ ds) d h t = every_snoc is_digit (x ∷ ds) d h t
