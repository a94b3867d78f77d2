-- `read_checks::mode_at` meets its contract. Assumes nothing.
use Rattle.read_checks.proofs.mode_at.Goals as goal

pub returns : goal.returns
returns c = rw (c.find_mode.ensures, c.spelling.ensures)
