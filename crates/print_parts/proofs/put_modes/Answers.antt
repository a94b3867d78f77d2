-- `print_parts::put_modes` meets its contract, variant by variant.
-- Assumes nothing.
use Rattle.read_forms.specs.Forms.{modes_in}
use Rattle.print_parts.proofs.put_modes.Goals as goal

pub put-requires : goal.put-requires
unfolding modes_in
put-requires c =
    (rw c.in-Wildcard.is at c.requires).1

pub put_chosen-requires : goal.put_chosen-requires
unfolding modes_in
put_chosen-requires c =
    rw c.in-List.is at c.requires

pub returns-in-Wildcard : goal.returns-in-Wildcard
unfolding modes_in
returns-in-Wildcard c = rw c.in-Wildcard.is c.put.ensures

pub returns-in-List : goal.returns-in-List
unfolding modes_in
returns-in-List c = rw c.in-List.is c.put_chosen.ensures
