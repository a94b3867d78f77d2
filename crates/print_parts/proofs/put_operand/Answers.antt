-- `print_parts::put_operand` meets its contract, variant by variant.
-- Assumes nothing.
use Rattle.read_forms.specs.Forms.{operand_in}
use Rattle.print_writing.proofs.Writing.{room-same}
use Rattle.print_parts.proofs.Parts.{listed-names}
use Rattle.print_parts.proofs.put_operand.Goals as goal

pub put-requires : goal.put-requires
unfolding operand_in
put-requires c =
    rw c.in-Wildcard.is at c.requires.2

pub put_symbol-requires : goal.put_symbol-requires
unfolding operand_in
put_symbol-requires c =
    let h = rw c.in-Symbol.is at c.requires in
    (h.1, h.2)

pub put_names-requires : goal.put_names-requires
put_names-requires c =
    let h = rw c.in-Names.is at c.requires in
    (h.0, h.1, room-same c.args.at (listed-names c.args.text.now c.in-Names.items) h.2)

pub returns-in-Wildcard : goal.returns-in-Wildcard
unfolding operand_in
returns-in-Wildcard c = rw c.in-Wildcard.is c.put.ensures

pub returns-in-Symbol : goal.returns-in-Symbol
unfolding operand_in
returns-in-Symbol c = rw c.in-Symbol.is c.put_symbol.ensures

pub returns-in-Names : goal.returns-in-Names
returns-in-Names c =
    let a = c.args in
    rw (c.in-Names.is, listed-names a.text.now c.in-Names.items) c.put_names.ensures
