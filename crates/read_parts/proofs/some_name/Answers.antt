-- `read_parts::some_name` meets its contract: a name, or an argument left out. Assumes nothing.
use Rattle.read_parts.proofs.some_name.Goals as goal

pub returns-in-Some : goal.returns-in-Some
returns-in-Some c = rw c.in-Some.is
