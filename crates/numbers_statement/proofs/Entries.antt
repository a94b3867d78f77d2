-- The entries of a list, written one after the other: the numbers of those that are left.
-- Assumes nothing.
use mathlib.Core.Path.{◌≡◌, refl, ◌∙◌, ap}
use mathlib.Core.Bool.{true}
use mathlib.Core.List.{List, [], ◌∷◌, ◌++◌, map}
use Prim.Native.Nat.{ℕ, ◌-◌, ◌<◌}
use lib.ListN.{length}
use Rattle.reading.specs.Statement.{Item}
use Rattle.canonical.specs.Numbers.{pairs_numbers, items_numbers}
use Rattle.read_forms.specs.declared.Items.{Items}
use Rattle.read_forms.specs.Items.{tokens_from, entries, listed, items_in}
use Rattle.read_forms.specs.Forms.{values_in}
use Rattle.read_forms.specs.Fits.{Listed}
use Rattle.read_forms.proofs.Entries.{entries_next, listed_next, entries-length}
use Rattle.read_forms.proofs.Lists.{items_are}
use Rattle.read_checks.specs.declared.Entry as checked
use Rattle.read_checks.specs.Answers.{entry_in, NextEntry, goes_on}
use Rattle.print_writing.specs.Written.{Written}
use Rattle.print_writing.proofs.Going.{Going, told, further, no_more}
use Rattle.numbers_statement.specs.declared.Entry.{Entry}
use Rattle.numbers_statement.specs.declared.Entry.TheVariants.{Pair, Value, Count}
use Rattle.numbers_statement.specs.Ready.{Ready}
use Rattle.numbers_statement.specs.Entries.{entry_numbers, entries_numbers}
use Rattle.numbers_statement.proofs.Pieces.{ready_first}

-- How the definition writes the entries of each kind.

pub pairs_are : (is : List Item) → pairs_numbers (map (λ i. i.name) is) ≡ entries_numbers Pair is
pairs_are [] = refl
pairs_are (i ∷ is) = ap (λ (l : List ℕ). entry_numbers Pair i ++ l) (pairs_are is)

pub values-are : (is : List Item) → items_numbers is ≡ entries_numbers Value is
values-are [] = refl
values-are (i ∷ is) = ap (λ (l : List ℕ). entry_numbers Value i ++ l) (values-are is)

pub counts-are : (is : List Item) → values_in is ≡ entries_numbers Count is
counts-are [] = refl
counts-are (i ∷ is) = ap (λ (l : List ℕ). entry_numbers Count i ++ l) (counts-are is)

-- a list has as many entries as it says
pub items_many : (s : List ℕ) (is : Items) → Listed s is → length (items_in s is) ≡ is.count
items_many s is l = ap length (items_are s is l) ∙ entries-length is.count (tokens_from s is.first.at) l.are

-- of the numbers to be written, those of so many entries from an offset on are left
pub record Left (e : Entry) (s before : List ℕ) (at : ℕ) (all now : List ℕ) (next n o : ℕ) : Type 0 where
  pub entered : listed n (tokens_from s o) ≡ true
  pub under_way : Going before at all now next (entries_numbers e (entries n (tokens_from s o)))

module _ {e : Entry} {s before : List ℕ} {at : ℕ} {all now : List ℕ} {next n o : ℕ} (g : Left e s before at all now next n o) where
  -- no entry is left
  pub none_left : n ≡ 0 → Written before at all now next
  unfolding entries
  none_left h = no_more (told (ap (λ (k : ℕ). entries_numbers e (entries k (tokens_from s o))) h) g.under_way)

  -- there is an entry, and the others are read from its cursor
  module _ (k : 0 < n) {i : checked.Entry} (h : NextEntry s o i) where
    abbrev others : List ℕ
    others = entries_numbers e (entries (n - 1) (tokens_from s (goes_on s i)))

    at_entry : Going before at all now next (entry_numbers e (entry_in s i) ++ others)
    at_entry = told (ap (entries_numbers e) (entries_next k h.here)) g.under_way

    pub entry_ready : Ready at all → Ready next (entry_numbers e (entry_in s i))
    entry_ready r = ready_first (entry_numbers e (entry_in s i)) others r at_entry

    pub entry-put :
        {now' : List ℕ} {next' : ℕ} → Written now next (entry_numbers e (entry_in s i)) now' next' → Left e s before at all now' next' (n - 1) (goes_on s i)
    entry-put w = record { entered = listed_next k h.here g.entered; under_way = further at_entry w }
