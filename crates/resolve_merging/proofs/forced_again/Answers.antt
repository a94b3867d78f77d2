-- `resolve_merging::forced_again` meets its contract: the table is cleared for the pairs of the terms.
-- Assumes nothing.
use Rattle.resolve_merging.proofs.Settling.{ready_cleared, looked_cleared}
use Rattle.resolve_merging.proofs.forced_again.Goals as goal

pub first_forced-requires : goal.first_forced-requires
first_forced-requires c = (c.requires, ready_cleared c.requires c.tally.ensures)

pub returns : goal.returns
returns c = looked_cleared c.requires c.tally.ensures c.first_forced.ensures
