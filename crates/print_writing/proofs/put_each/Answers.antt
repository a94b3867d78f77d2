-- `print_writing::put_each` meets its contract. The invariant: so many of the elements were written.
-- Assumes nothing.
use Rattle.print_writing.proofs.Writing.{nothing_written, written_next}
use Rattle.print_writing.proofs.put_each.Goals as goal

pub loop-item-init : goal.loop-item-init
loop-item-init g c = nothing_written _ _

pub loop-item-preserved : goal.loop-item-preserved
loop-item-preserved g c =
    written_next _ _ _ c.item-item.is c.loop-item-test.true c.loop-item.invariant c.put-next.ensures
