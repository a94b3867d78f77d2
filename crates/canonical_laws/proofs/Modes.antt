-- Modes are read again from their labels.
-- Assumes nothing.
use Prim.Native.Nat.{ℕ}
use mathlib.Core.Path.{◌≡◌, refl, ap}
use mathlib.Core.Bool.{true, not, false≢true}
use mathlib.Core.List.{List, [], ◌∷◌, map}
use mathlib.Core.Option.{some}
use borrow.Author.Tests.{ltb-true}
use lib.Dec.{eqb}
use lib.ListN.{length, get_or}
use Rattle.text.specs.Lists.{all}
use Rattle.text.proofs.Tests.{and_left, and_right}
use Rattle.token_laws.proofs.Labels.{label_word}
use Rattle.labels.specs.declared.Family.{Family}
use Rattle.labels.specs.Word.{find}
use Rattle.labels.specs.Label.{labels_of}
use Rattle.labels.proofs.Distinct.{own-place, labels_distinct}
use Rattle.reading.specs.Statement.{a_word, Item, Modes, all_modes, modes}
use Rattle.reading.specs.Answer.{accepted}
use Rattle.reading.specs.Argument.{star, mode_list, firsts, modes_of}
use Rattle.reading.specs.Syntax.{item_as}
use Rattle.reading_laws.specs.WellFormed.{one_to64, is_place, none_twice, well_modes}
use Rattle.reading_laws.proofs.Places.{without-none}
use Rattle.canonical.specs.Canonical.{label_shape, modes_shapes}
use Rattle.canonical_laws.specs.Printed.{Entry, word_entry, bare_arg, Again}
use Rattle.canonical_laws.proofs.Arguments.{star-printed}
use Rattle.canonical_laws.proofs.Lists.{each, bare_list_printed}

-- a mode's label as an entry
abbrev label_item : Family → ℕ → Item
label_item f m = item_as a_word 0 (get_or (labels_of f) m [])

module _ (f : Family) where
  label_entry : (m : ℕ) → is_place f m ≡ true → Entry (label_shape f m) (label_item f m)
  label_entry m e = word_entry (label_word f m (ltb-true m (length (labels_of f)) e))

  label_found : (m : ℕ) → is_place f m ≡ true → find (get_or (labels_of f) m []) (labels_of f) ≡ some m
  label_found m e = own-place (labels_of f) m (labels_distinct f) (ltb-true m (length (labels_of f)) e)

  labels_mean : (ms : List ℕ) → all (is_place f) ms ≡ true → mode_list f (map (label_item f) ms) ≡ accepted ms
  unfolding mode_list
  labels_mean [] e = refl
  labels_mean (m ∷ ms) e =
      simp (label_found m (and_left (is_place f m) (all (is_place f) ms) e), labels_mean ms (and_right (is_place f m) (all (is_place f) ms) e))

-- modes of which none stands twice all stay
firsts_stay : (ms : List ℕ) → none_twice ms ≡ true → firsts ms ≡ ms
unfolding firsts
firsts_stay [] e = refl
firsts_stay (m ∷ ms) e =
    simp (firsts_stay ms (and_right (all (λ x. not (eqb m x)) ms) (none_twice ms) e))
    (ap (λ (l : List ℕ). m ∷ l) (without-none m ms (and_left (all (λ x. not (eqb m x)) ms) (none_twice ms) e)))

modes-mean :
    (f : Family) (ms : List ℕ)
    → one_to64 (is_place f) ms ≡ true
    → none_twice ms ≡ true
    → modes_of f (bare_arg (map (label_item f) ms)) ≡ accepted (modes ms)
unfolding modes_of
modes-mean f [] e t = absurd (false≢true e)
modes-mean f (m ∷ []) e t = simp (label_found f m (and_left (is_place f m) true (each (is_place f) (m ∷ []) e)))
modes-mean f (m ∷ l ∷ ms) e t =
    simp (labels_mean f (m ∷ l ∷ ms) (each (is_place f) (m ∷ l ∷ ms) e), firsts_stay (m ∷ l ∷ ms) t)

-- Modes are printed so that they are read again as themselves.
pub modes-again :
    (limit : ℕ) (f : Family) (ms : Modes) → well_modes f ms ≡ true → Again limit (modes_shapes f ms) (λ a. modes_of f a ≡ accepted ms)
unfolding modes_of
modes-again limit f all_modes e = record { arg = star 0; printed = star-printed; fact = refl }
modes-again limit f (modes ms) e =
    let p = and_left (one_to64 (is_place f) ms) (none_twice ms) e in
    record {
      arg = bare_arg (map (label_item f) ms);
      printed = bare_list_printed (label_shape f) (label_item f) (is_place f) (label_entry f) ms p;
      fact = modes-mean f ms p (and_right (one_to64 (is_place f) ms) (none_twice ms) e);
    }
