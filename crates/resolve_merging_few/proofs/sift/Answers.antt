-- `resolve_merging_few::sift` meets its contract. The invariant: those that stay so far are the first, and with what stays of the others they are
-- what stays of all.
-- Assumes nothing.
use Rattle.resolve_merging_few.proofs.Sifting.{sifting-next}
use Rattle.resolve_merging_few.proofs.sift.Goals as goal

pub loop-i-preserved : goal.loop-i-preserved
loop-i-preserved g c =
    sifting-next g.P.Pass.which c.loop-i-test.true c.requires.0 c.requires.1 c.loop-i.invariant c.sift_one-at.ensures
