-- What the loop keeps.
use lib.ListN.{take}
use Rattle.resolve_merging.specs.Tables.{Tallied}
use Rattle.resolve_merging.specs.Passes.{step_of}
use Rattle.resolve_merging.proofs.tally.Given as goal

abbrev pub invariant-loop-i : goal.invariant-loop-i
invariant-loop-i g l = Tallied (step_of g.S.Step.which) (take l.i l.initial.work) l.initial.work l.work
