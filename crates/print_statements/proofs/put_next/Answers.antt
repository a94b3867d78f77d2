-- `print_statements::put_next` meets its contract. Assumes nothing.
use Rattle.print_writing.proofs.Writing.{written_on}
use Rattle.print_statements.proofs.put_next.Goals as goal

pub returns : goal.returns
returns c =
    written_on c.put_joint-next.ensures c.put_statement.ensures
