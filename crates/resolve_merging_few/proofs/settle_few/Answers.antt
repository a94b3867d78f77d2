-- `resolve_merging_few::settle_few` meets its contract: what remains, then 17, then what is merged and its groups.
-- Assumes nothing.
use Rattle.std.proofs.Common.{None, refl}
use Rattle.resolve_merging_few.proofs.Settling.{few_forced, few-merged}
use Rattle.resolve_merging_few.proofs.settle_few.Goals as goal

pub returns-in-Some : goal.returns-in-Some
returns-in-Some c = (few_forced c.requires.0 c.remain-left.ensures c.forced_again.ensures _ c.in-Some.is, tt)

pub returns : goal.returns
returns c = (
  few-merged {f = None} c.requires.0 c.remain-left.ensures c.in_default.ensures refl c.drop_twins-once.ensures c.unite_all.ensures.left,
  c.unite_all.ensures.groups,
)
