-- Counts are read again from their digits.
-- Assumes nothing.
use Prim.Native.Nat.{ℕ, ◌≤◌}
use native.Mathlib.Omega.{arith}
use mathlib.Core.Path.{◌≡◌, refl}
use mathlib.Core.Bool.{true, false, false≢true}
use mathlib.Core.List.{List, [], ◌∷◌, map}
use borrow.Author.Tests.{leb-true, le-leb, le-ltb}
use lib.Dec.{leb}
use Rattle.text.specs.Lists.{all}
use Rattle.text.proofs.Tests.{and_left, and_right, both}
use Rattle.counts.specs.Decimal.{digits_of}
use Rattle.counts.proofs.Decimal.{count_of-digits_of}
use Rattle.reading.specs.Statement.{a_number, Item, Counts, count, counts}
use Rattle.reading.specs.Statement as statement
use Rattle.reading.specs.Answer.{accepted}
use Rattle.reading.specs.Argument.{single, range, array, count_at, range_of, count_list, counts_of}
use Rattle.reading.specs.Feature.{is_n}
use Rattle.reading.specs.Syntax.{name, item_as}
use Rattle.reading_laws.specs.WellFormed.{one_to64, within_limit, well_range, well_counts}
use Rattle.canonical.specs.Canonical.{count_shape, counts_shapes}
use Rattle.canonical_laws.specs.Printed.{Entry, number_entry, Again}
use Rattle.canonical_laws.proofs.Spelling.{digits_number, digits_no_n}
use Rattle.canonical_laws.proofs.Arguments.{single-printed, range-printed}
use Rattle.canonical_laws.proofs.Lists.{each, list_printed}

-- a count's digits as an entry
abbrev digits_item : ℕ → Item
digits_item v = item_as a_number 0 (digits_of v)

count-entry : (v : ℕ) → Entry (count_shape v) (digits_item v)
count-entry v = number_entry (digits_number v)

module _ (limit : ℕ) where
  count-means : (v : ℕ) → within_limit limit v ≡ true → count_at limit (name 0 (digits_of v)) ≡ accepted v
  unfolding count_at
  count-means v e =
      simp (count_of-digits_of limit v (leb-true v limit (and_right (leb v 4294967295) (leb v limit) e))
      (leb-true v 4294967295 (and_left (leb v 4294967295) (leb v limit) e)))

  counts-mean : (vs : List ℕ) → all (within_limit limit) vs ≡ true → count_list limit 0 (map digits_item vs) ≡ accepted vs
  unfolding count_list
  counts-mean [] e = refl
  counts-mean (v ∷ vs) e =
      simp (
        count-means v (and_left (within_limit limit v) (all (within_limit limit) vs) e),
        counts-mean vs (and_right (within_limit limit v) (all (within_limit limit) vs) e),
      )

  list_means : (vs : List ℕ) → one_to64 (within_limit limit) vs ≡ true → counts_of limit (array 0 (map digits_item vs)) ≡ accepted (counts vs)
  unfolding counts_of
  list_means [] e = absurd (false≢true e)
  list_means (v ∷ vs) e = simp (counts-mean (v ∷ vs) (each (within_limit limit) (v ∷ vs) e))

  range-means : (a b : ℕ) → well_range limit a b ≡ true → range_of limit (name 0 (digits_of a)) (name 0 (digits_of b)) ≡ accepted (range 0 a b)
  unfolding range_of
  range-means a b e =
      let order : a ≤ b = leb-true a b (and_left (leb a b) (within_limit limit b) e) in
      let high : within_limit limit b ≡ true = and_right (leb a b) (within_limit limit b) e in
      let most : b ≤ 4294967295 = leb-true b 4294967295 (and_left (leb b 4294967295) (leb b limit) high) in
      let within : b ≤ limit = leb-true b limit (and_right (leb b 4294967295) (leb b limit) high) in
      let low : within_limit limit a ≡ true = both (le-leb a 4294967295 (omega arith)) (le-leb a limit (omega arith)) in
      simp (count-means a low, count-means b high, le-ltb b a order)

  -- Counts are printed so that they are read again as themselves, and not as N.
  pub counts-again :
      (c : Counts) → well_counts limit c ≡ true → Again limit (counts_shapes c) (λ a. (is_n a ≡ false) × (counts_of limit a ≡ accepted c))
  unfolding counts_of
  counts-again (count v) e =
      record { arg = single (digits_item v); printed = single-printed (count-entry v); fact = (digits_no_n v, simp (count-means v e)) }
  counts-again (statement.range a b) e =
      record {
        arg = range 0 a b;
        printed = range-printed (digits_number a) (digits_number b) (range-means a b e);
        fact = (refl, refl);
      }
  counts-again (counts vs) e =
      record {
        arg = array 0 (map digits_item vs);
        printed = list_printed count_shape digits_item (within_limit limit) (λ v h. count-entry v) vs e;
        fact = (refl, list_means vs e);
      }
