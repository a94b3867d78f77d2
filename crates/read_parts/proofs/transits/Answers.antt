-- `read_parts::transits` meets its contract: counts, or N. Assumes nothing.
use Rattle.read_parts.proofs.transits.Goals as goal

pub returns-in-Counts : goal.returns-in-Counts
returns-in-Counts c = rw c.in-Counts.is
