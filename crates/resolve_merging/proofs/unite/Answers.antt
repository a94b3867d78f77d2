-- `resolve_merging::unite` meets its contract.
-- Assumes nothing.
use Rattle.resolve_merging.proofs.Settling.{unite_left}
use Rattle.resolve_merging.proofs.unite.Goals as goal

pub returns : goal.returns
returns c = unite_left c.requires c.tally_anew.ensures c.sift-k.ensures c.tally.ensures c.sift.ensures
