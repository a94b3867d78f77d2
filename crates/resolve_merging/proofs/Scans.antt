-- A part of the buffer, number by number.
-- Assumes nothing.
use Prim.Native.Nat.{ℕ, ◌+◌, ◌≤◌, ◌<◌}
use native.Mathlib.Numerals.{add-one}
use native.Mathlib.Omega.{arith}
use mathlib.Core.Path.{◌≡◌, refl, sym, ◌∙◌, ap}
use mathlib.Core.Bool.{Bool, false, ◌||◌}
use mathlib.Core.List.{List, [], ◌∷◌}
use lib.ListN.{length, take, get_or, length-take, drop_of_length-le}
use lib.Seq.{slice, slice-cons}
use Rattle.std.specs.List.{list_any}
use Rattle.text.specs.Lists.{any}

-- the library's word for the same
pub any-list_any : {A : Type 0} (p : A → Bool) (l : List A) → any p l ≡ list_any p l
any-list_any p [] = refl
any-list_any p (x ∷ l) = ap (λ (t : Bool). p x || t) (any-list_any p l)

pub slice_next : (l : List ℕ) (k to : ℕ) → k < to → to ≤ length l → slice k to l ≡ get_or l k 0 ∷ slice (k + 1) to l
slice_next l k to h g = slice-cons k to l 0 h g ∙ ap (λ (j : ℕ). get_or l k 0 ∷ slice j to l) (sym (add-one k))

pub slice_past : (l : List ℕ) (k to : ℕ) → to ≤ k → slice k to l ≡ []
slice_past l k to h =
    let g : length (take to l) ≤ k = omega (arith, length-take to l) in
    drop_of_length-le (take to l) g

-- one number is looked at, or all were
pub scan_step :
    (p : ℕ → Bool) (l : List ℕ) (k to : ℕ) → k < to → to ≤ length l → any p (slice k to l) ≡ p (get_or l k 0) || any p (slice (k + 1) to l)
scan_step p l k to h g = ap (any p) (slice_next l k to h g)

pub scan_none : (p : ℕ → Bool) (l : List ℕ) (k to : ℕ) → to ≤ k → any p (slice k to l) ≡ false
scan_none p l k to h = ap (any p) (slice_past l k to h)
