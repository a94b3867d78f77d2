-- `print_statements::put_joint` meets its contract. Assumes nothing.
use Rattle.print_writing.proofs.Writing.{nothing_written}
use Rattle.print_statements.proofs.put_joint.Goals as goal

pub returns-then-n-eq0 : goal.returns-then-n-eq0
returns-then-n-eq0 c = rw c.if-n-eq0.true (nothing_written _ _)
