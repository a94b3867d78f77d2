-- `print_statements::put_question` meets its contract.
-- Assumes nothing.
use Rattle.print_writing.proofs.Writing.{nothing_written}
use Rattle.print_statements.proofs.put_question.Goals as goal

pub returns : goal.returns
returns c = rw c.if-optional.false (nothing_written _ _)
