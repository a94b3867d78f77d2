-- `numbers_statement::put_part` meets its contract, part by part. Assumes nothing.
use mathlib.Core.Path.{◌≡◌, ap, ◌∙◌}
use mathlib.Core.List.{List, ◌∷◌, append-nil}
use Prim.Native.Nat.{ℕ}
use Rattle.canonical.specs.Numbers.{part_numbers, items_numbers}
use Rattle.reading.specs.Parts.{values_part}
use Rattle.read_forms.specs.declared.Items.{Items}
use Rattle.read_forms.specs.Items.{items_in}
use Rattle.read_forms.specs.Fits.{Listed}
use Rattle.print_writing.proofs.Writing.{nothing_written}
use Rattle.numbers_statement.specs.declared.Entry.TheVariants.{Value}
use Rattle.numbers_statement.specs.Entries.{entries_numbers}
use Rattle.numbers_statement.proofs.Pieces.{ready_same, written_same}
use Rattle.numbers_statement.proofs.Entries.{values-are, items_many}
use Rattle.numbers_statement.proofs.put_part.Goals as goal

valued :
    (s : List ℕ) (is : Items)
    → Listed s is
    → part_numbers (values_part (items_in s is)) ≡ 12 ∷ is.count ∷ entries_numbers Value (items_in s is)
valued s is l =
    ap (λ (n : ℕ). 12 ∷ n ∷ items_numbers (items_in s is)) (items_many s is l)
    ∙ ap (λ (vs : List ℕ). 12 ∷ is.count ∷ vs) (values-are (items_in s is))

pub put_modes-requires : goal.put_modes-requires
put_modes-requires c =
    ready_same (append-nil _) (rw c.in-Modes.is at c.requires).2

pub put_counts-requires : goal.put_counts-requires
put_counts-requires c =
    let h = rw c.in-Counts.is at c.requires in
    (h.0, h.1, ready_same (append-nil _) h.2)

pub put-requires : goal.put-requires
put-requires c =
    (rw c.in-N.is at c.requires).2

pub put_operand-requires : goal.put_operand-requires
put_operand-requires c =
    let h = rw c.in-Operand.is at c.requires in
    (h.0, h.1, ready_same (append-nil _) h.2)

pub put_name-requires : goal.put_name-requires
put_name-requires c =
    let h = rw c.in-Name.is at c.requires in
    (h.1, h.2)

pub put_list-requires : goal.put_list-requires
put_list-requires c =
    let h = rw c.in-Values.is at c.requires in
    (h.0, h.1, ready_same (append-nil _ ∙ valued c.args.text.now c.in-Values.items h.1) h.2)

pub put_op-requires : goal.put_op-requires
put_op-requires c =
    ready_same (append-nil _) (rw c.in-Op.is at c.requires).2

pub put-requires-in-Omitted : goal.put-requires-in-Omitted
put-requires-in-Omitted c =
    (rw c.in-Omitted.is at c.requires).2

pub returns-in-Absent : goal.returns-in-Absent
returns-in-Absent c = rw c.in-Absent.is (nothing_written _ _)

pub returns-in-Modes : goal.returns-in-Modes
returns-in-Modes c = rw (c.in-Modes.is, append-nil) c.put_modes.ensures

pub returns-in-Counts : goal.returns-in-Counts
returns-in-Counts c = rw (c.in-Counts.is, append-nil) c.put_counts.ensures

pub returns-in-N : goal.returns-in-N
returns-in-N c = rw c.in-N.is c.put.ensures

pub returns-in-Operand : goal.returns-in-Operand
returns-in-Operand c = rw (c.in-Operand.is, append-nil) c.put_operand.ensures

pub returns-in-Name : goal.returns-in-Name
returns-in-Name c = rw c.in-Name.is c.put_name.ensures

pub returns-in-Values : goal.returns-in-Values
returns-in-Values c =
    let h = rw c.in-Values.is at c.requires in
    rw c.in-Values.is
    (written_same (append-nil _ ∙ valued c.args.text.now c.in-Values.items h.1) c.put_list.ensures)

pub returns-in-Op : goal.returns-in-Op
returns-in-Op c = rw (c.in-Op.is, append-nil) c.put_op.ensures

pub returns-in-Omitted : goal.returns-in-Omitted
returns-in-Omitted c = rw c.in-Omitted.is c.put-in-Omitted.ensures
