-- `resolve_merging::number_groups` meets its contract. The invariant: the groups so far have their indexes, and the others 0.
-- Assumes nothing.
use native.Mathlib.Omega.{arith}
use Rattle.resolve_merging.proofs.IndexLaws.{numbering-next}
use Rattle.resolve_merging.proofs.number_groups.Goals as goal

pub loop-j-preserved : goal.loop-j-preserved
loop-j-preserved c =
    let p = c.requires in
    numbering-next (omega (arith, c.fits-work)) p.0 c.loop-j-test.true p.1 c.loop-j.invariant c.number_group.ensures
