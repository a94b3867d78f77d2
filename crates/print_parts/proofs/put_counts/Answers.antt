-- `print_parts::put_counts` meets its contract, variant by variant.
-- Assumes nothing.
use Rattle.read_forms.specs.Forms.{counts_in}
use Rattle.print_writing.proofs.Writing.{room-same}
use Rattle.print_parts.proofs.Parts.{one_count, listed-counts}
use Rattle.print_parts.proofs.put_counts.Goals as goal

pub put_number-requires : goal.put_number-requires
put_number-requires c =
    let h = rw c.in-Single.is at c.requires in
    room-same c.args.at (one_count c.args.text.now c.in-Single.value) h.2

pub put_range-requires : goal.put_range-requires
unfolding counts_in
put_range-requires c =
    (rw c.in-Range.is at c.requires).2

pub put_bracketed-requires : goal.put_bracketed-requires
put_bracketed-requires c =
    let h = rw c.in-List.is at c.requires in
    (h.0, h.1, room-same c.args.at (listed-counts c.args.text.now c.in-List.items) h.2)

pub returns-in-Single : goal.returns-in-Single
returns-in-Single c =
    let a = c.args in
    rw (c.in-Single.is, one_count a.text.now c.in-Single.value) c.put_number.ensures

pub returns-in-Range : goal.returns-in-Range
unfolding counts_in
returns-in-Range c = rw c.in-Range.is c.put_range.ensures

pub returns-in-List : goal.returns-in-List
returns-in-List c =
    let a = c.args in
    rw (c.in-List.is, listed-counts a.text.now c.in-List.items) c.put_bracketed.ensures
