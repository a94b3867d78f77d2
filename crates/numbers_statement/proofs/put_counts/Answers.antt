-- `numbers_statement::put_counts` meets its contract: a number, a range, or a list. Assumes nothing.
use mathlib.Core.Path.{◌≡◌, ap, ◌∙◌}
use mathlib.Core.List.{List, ◌∷◌}
use Prim.Native.Nat.{ℕ}
use lib.ListN.{length-map}
use Rattle.canonical.specs.Numbers.{counts_numbers}
use Rattle.read_forms.specs.declared.Items.{Items}
use Rattle.read_forms.specs.declared.Counts.TheVariants as counts
use Rattle.read_forms.specs.Items.{items_in}
use Rattle.read_forms.specs.Forms.{count_for, values_in, counts_in}
use Rattle.read_forms.specs.Fits.{Listed}
use Rattle.numbers_statement.specs.declared.Entry.TheVariants.{Count}
use Rattle.numbers_statement.specs.Entries.{entries_numbers}
use Rattle.numbers_statement.proofs.Pieces.{ready_same, written_same}
use Rattle.numbers_statement.proofs.Entries.{counts-are, items_many}
use Rattle.numbers_statement.proofs.put_counts.Goals as goal

listed :
    (s : List ℕ) (is : Items)
    → Listed s is
    → counts_numbers (counts_in s (counts.List is)) ≡ 4 ∷ is.count ∷ entries_numbers Count (items_in s is)
unfolding counts_in
listed s is l =
    ap (λ (n : ℕ). 4 ∷ n ∷ values_in (items_in s is)) (length-map (items_in s is) count_for ∙ items_many s is l)
    ∙ ap (λ (vs : List ℕ). 4 ∷ is.count ∷ vs) (counts-are (items_in s is))

pub put_two-requires : goal.put_two-requires
unfolding counts_in
put_two-requires c =
    rw c.in-Single.is at c.requires.2

pub put_three-requires : goal.put_three-requires
unfolding counts_in
put_three-requires c =
    rw c.in-Range.is at c.requires.2

pub put_list-requires : goal.put_list-requires
put_list-requires c =
    let h = rw c.in-List.is at c.requires in
    (h.0, h.1, ready_same (listed c.args.text.now c.in-List.items h.1) h.2)

pub returns-in-Single : goal.returns-in-Single
unfolding counts_in
returns-in-Single c =
    rw c.in-Single.is c.put_two.ensures

pub returns-in-Range : goal.returns-in-Range
unfolding counts_in
returns-in-Range c =
    rw c.in-Range.is c.put_three.ensures

pub returns-in-List : goal.returns-in-List
returns-in-List c =
    let h = rw c.in-List.is at c.requires in
    rw c.in-List.is (written_same (listed c.args.text.now c.in-List.items h.1) c.put_list.ensures)
