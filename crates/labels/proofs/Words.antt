-- Words that are the same ignoring case: `same_word` is equality of the lower cases, so it is an equivalence; and how it is decided byte
-- by byte from the front.
-- Assumes nothing.
use mathlib.Core.Path.{◌≡◌, refl, sym, ap, ◌∙◌}
use mathlib.Core.Bool.{true, false, ◌&&◌, false≢true, and-false}
use mathlib.Core.List.{List, [], ◌∷◌, map}
use Prim.Native.Nat.{ℕ, suc, ◌+◌, ◌≤◌, ◌<◌}
use native.Mathlib.Numerals.{add-one}
use native.Mathlib.Omega.{arith}
use lib.Dec.{eqb}
use lib.ListN.{length, get_or, drop, drop_of_length-le}
use lib.Seq.{drop-cons}
use borrow.Author.Tests.{eq-eqb, eqb-true, ne_eqb}
pub use Rattle.text.proofs.Tests.{halves}
use Rattle.std.specs.Char.{to_ascii_lowercase}
use Rattle.labels.specs.Word.{lower, same_word}

-- std's lower case of a byte is the definition's
pub lower_ascii : (b : ℕ) → to_ascii_lowercase b ≡ lower b
lower_ascii b = grind arith

pub same-lower : (v w : List ℕ) → same_word v w ≡ true → map lower v ≡ map lower w
unfolding same_word
same-lower [] [] h = refl
same-lower [] (y ∷ ys) h = absurd (false≢true h)
same-lower (x ∷ xs) [] h = absurd (false≢true h)
same-lower (x ∷ xs) (y ∷ ys) h =
    let p = halves (eqb (lower x) (lower y)) (same_word xs ys) h in
    cc (eqb-true (lower x) (lower y) p.0, same-lower xs ys p.1)

pub lower-same : (v w : List ℕ) → map lower v ≡ map lower w → same_word v w ≡ true
unfolding same_word
lower-same [] [] h = refl
lower-same [] (y ∷ ys) h = cc
lower-same (x ∷ xs) [] h = cc
lower-same (x ∷ xs) (y ∷ ys) h =
    let first : lower x ≡ lower y = cc in
    let rest : map lower xs ≡ map lower ys = cc in
    simp (eq-eqb (lower x) (lower y) first, lower-same xs ys rest)

pub same_self : (w : List ℕ) → same_word w w ≡ true
same_self w = lower-same w w refl

pub same_sym : (v w : List ℕ) → same_word v w ≡ true → same_word w v ≡ true
same_sym v w h = lower-same w v (sym (same-lower v w h))

pub same_trans : (u v w : List ℕ) → same_word u v ≡ true → same_word v w ≡ true → same_word u w ≡ true
same_trans u v w h k = lower-same u w (same-lower u v h ∙ same-lower v w k)

-- words of other lengths differ
pub lengths_differ : (v w : List ℕ) → (length v ≡ length w → ⊥) → same_word v w ≡ false
unfolding same_word
lengths_differ [] [] n = absurd (n refl)
lengths_differ [] (y ∷ ys) n = refl
lengths_differ (x ∷ xs) [] n = refl
lengths_differ (x ∷ xs) (y ∷ ys) n = rw (lengths_differ xs ys (λ e. n (ap suc e))) (and-false (eqb (lower x) (lower y)))

-- words of one length are compared up to a place: they are the same if what is left of them from there on is
pub record Alike (v w : List ℕ) (i : ℕ) : Type 0 where
  pub within : i ≤ length v
  pub even : length v ≡ length w
  pub same : same_word v w ≡ same_word (drop i v) (drop i w)

module _ {v w : List ℕ} {i : ℕ} (r : Alike v w i) where
  module _ (h : i < length v) where
    step : same_word v w ≡ (eqb (lower (get_or v i 0)) (lower (get_or w i 0)) && same_word (drop (i + 1) v) (drop (i + 1) w))
    unfolding same_word
    step = let k : i < length w = omega (arith, r.even) in r.same ∙ rw (add-one, drop-cons v i 0, drop-cons w i 0)

    pub alike-on : lower (get_or v i 0) ≡ lower (get_or w i 0) → Alike v w (i + 1)
    alike-on e = record { within = omega arith; even = r.even; same = step ∙ rw (eq-eqb _ _ e) }

    pub alike-not : (lower (get_or v i 0) ≡ lower (get_or w i 0) → ⊥) → false ≡ same_word v w
    alike-not n = sym (step ∙ rw (ne_eqb _ _ n))

  pub alike_end : length v ≤ i → true ≡ same_word v w
  unfolding same_word
  alike_end h = let k : length w ≤ i = omega (arith, r.even) in sym (r.same ∙ rw (drop_of_length-le v, drop_of_length-le w))
