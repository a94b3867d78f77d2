-- `resolve_merging::sift` meets its contract. The invariant: what stays of the terms so far was moved to the front.
-- Assumes nothing.
use native.Mathlib.Omega.{arith}
use Rattle.resolve_merging.proofs.SiftLaws.{sifted-next}
use Rattle.resolve_merging.proofs.sift.Goals as goal

pub loop-i-preserved : goal.loop-i-preserved
loop-i-preserved g c =
    sifted-next g.P.Pass.which c.loop-i.i c.loop-i.to (omega (arith, c.fits-work)) (omega (arith, c.requires, c.loop-i-test.true)) c.loop-i.invariant
    c.sift_one-to.ensures
