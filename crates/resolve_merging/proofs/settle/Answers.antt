-- `resolve_merging::settle` meets its contract: what remains, then 17, then what is merged.
-- Assumes nothing.
use Rattle.resolve_merging.proofs.Settling.{forced_settles, merged_settles}
use Rattle.resolve_merging.proofs.settle.Goals as goal

pub returns-in-Some : goal.returns-in-Some
returns-in-Some c = forced_settles c.requires c.remain-left.ensures c.forced_again.ensures _ c.in-Some.is

pub returns-in-None : goal.returns-in-None
returns-in-None c =
    merged_settles c.requires c.remain-left.ensures c.forced_again.ensures c.in-None.is c.unite.ensures
