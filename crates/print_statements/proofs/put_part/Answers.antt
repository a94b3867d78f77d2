-- `print_statements::put_part` meets its contract: what is not printed leaves the buffer as it was. Assumes nothing.
use Rattle.std.proofs.Common.{rules}
use Rattle.print_writing.proofs.Writing.{nothing_written}
use Rattle.print_statements.proofs.put_part.Goals as goal

pub returns-in-Absent : goal.returns-in-Absent
returns-in-Absent c = let w = nothing_written c.args.out.now c.args.at in search rules

pub returns-in-Absent-2 : goal.returns-in-Absent-2
returns-in-Absent-2 c = let w = nothing_written c.args.out.now c.args.at in search rules
