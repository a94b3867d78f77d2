-- `print_lines::put_ground` meets its contract. Assumes nothing.
use Rattle.print_writing.proofs.Writing.{written_on}
use Rattle.print_lines.proofs.put_ground.Goals as goal

pub returns : goal.returns
returns c = written_on c.put_all-a.ensures c.put.ensures
