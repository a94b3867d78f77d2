-- `resolve_merging::remain` meets its contract.
-- Assumes nothing.
use Rattle.resolve_merging.proofs.Settling.{remain_left}
use Rattle.resolve_merging.proofs.remain.Goals as goal

pub returns : goal.returns
returns c = remain_left c.requires c.tally_anew.ensures c.sift.ensures
