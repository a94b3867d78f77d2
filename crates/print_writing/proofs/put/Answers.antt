-- `print_writing::put` meets its contract: with no room the buffer stays, and with room one element of it is another.
-- Assumes nothing.
use Rattle.print_writing.proofs.Writing.{one-past, one_set}
use Rattle.print_writing.proofs.put.Goals as goal

pub returns-then-at-out : goal.returns-then-at-out
returns-then-at-out g c = one_set c.args.out.now c.args.at c.args.item

pub returns-else-at-out : goal.returns-else-at-out
returns-else-at-out g c = one-past c.args.out.now c.args.at c.args.item c.if-at-out.false
