-- `resolve_merging::tally` meets its contract. The invariant: the table is as the terms so far make it.
-- Assumes nothing.
use native.Mathlib.Omega.{arith}
use mathlib.Core.Path.{refl}
use Rattle.resolve_merging.specs.Passes.{step_of}
use Rattle.resolve_merging.proofs.TableLaws.{tallied-next}
use Rattle.resolve_merging.proofs.tally.Goals as goal

pub loop-i-preserved : goal.loop-i-preserved
loop-i-preserved g c =
    tallied-next (step_of g.S.Step.which) c.loop-i.i (omega (arith, c.fits-work)) (omega (arith, c.requires, c.loop-i-test.true))
    c.loop-i.invariant _ refl c.touch.ensures
