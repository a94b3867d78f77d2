-- A scan of rows, from the first on: what is found in all of them is what is found in those left, counted on from the rows passed.
-- Assumes nothing.
use mathlib.Core.Path.{◌≡◌, refl, sym, ap, ◌∙◌}
use mathlib.Core.Bool.{true, false}
use mathlib.Core.List.{List, [], ◌∷◌}
use mathlib.Core.Option.{Option, some, none}
use Prim.Native.Nat.{ℕ, suc, ◌+◌, ◌-◌, ◌≤◌, ◌<◌}
use native.Mathlib.Nat.{add-zero, zero-add, sub-zero}
use native.Mathlib.Omega.{arith}
use Rattle.labels.specs.Word.{same_word, find}
use Rattle.text.specs.Lists.{later_by_one}
use Rattle.labels.specs.Row.{label_at, labels_in}

-- a place, counted on from k
abbrev pub counted : ℕ → Option ℕ → Option ℕ
counted k none = none
counted k (some i) = some (k + i)

counted-zero : (o : Option ℕ) → counted 0 o ≡ o
counted-zero none = refl
counted-zero (some i) = ap {B = Option ℕ} some (zero-add i)

counted_next : (k : ℕ) (o : Option ℕ) → counted k (later_by_one o) ≡ counted (k + 1) o
counted_next k none = refl
counted_next k (some i) = ap {B = Option ℕ} some (omega arith)

labels_more : (t : List ℕ) (i n k : ℕ) → k < n → labels_in t (i + k) (n - k) ≡ label_at t (i + k) ∷ labels_in t (i + (k + 1)) (n - (k + 1))
unfolding labels_in
labels_more t i n k h =
    let left : n - k ≡ suc (n - (k + 1)) = omega arith in
    let next : i + (k + 1) ≡ suc (i + k) = omega arith in
    rw (left, next)

labels_none : (t : List ℕ) (i n k : ℕ) → n ≤ k → labels_in t (i + k) (n - k) ≡ []
unfolding labels_in
labels_none t i n k h =
    let left : n - k ≡ 0 = omega arith in
    rw left

-- of the n rows from row i on, k are passed
pub record Passed (w t : List ℕ) (i n k : ℕ) : Type 0 where
  pub within : k ≤ n
  pub left : find w (labels_in t i n) ≡ counted k (find w (labels_in t (i + k) (n - k)))

pub passed_none : (w t : List ℕ) (i n : ℕ) → Passed w t i n 0
passed_none w t i n = record { within = omega arith; left = rw (add-zero i, sub-zero n) (sym (counted-zero (find w (labels_in t i n)))) }

module _ {w t : List ℕ} {i n k : ℕ} (p : Passed w t i n k) where
  pub passed-more : k < n → same_word w (label_at t (i + k)) ≡ false → Passed w t i n (k + 1)
  unfolding find
  passed-more h s =
      record {
        within = omega arith;
        left = p.left ∙ simp (labels_more t i n k h, s) (counted_next k (find w (labels_in t (i + (k + 1)) (n - (k + 1)))));
      }

  pub passed-found : k < n → same_word w (label_at t (i + k)) ≡ true → find w (labels_in t i n) ≡ some k
  unfolding find
  passed-found h s = p.left ∙ simp (labels_more t i n k h, s, add-zero k)

  pub passed-all : n ≤ k → find w (labels_in t i n) ≡ none
  unfolding find
  passed-all h = p.left ∙ simp (labels_none t i n k h)
