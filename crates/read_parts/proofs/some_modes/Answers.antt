-- `read_parts::some_modes` meets its contract: modes, or an argument left out. Assumes nothing.
use Rattle.read_parts.proofs.some_modes.Goals as goal

pub returns-in-Some : goal.returns-in-Some
returns-in-Some c = rw c.in-Some.is
