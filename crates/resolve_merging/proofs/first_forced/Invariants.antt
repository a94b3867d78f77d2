-- What the loop keeps.
use Rattle.resolve_merging.proofs.ForcedLaws.{Looking}
use Rattle.resolve_merging.proofs.first_forced.Given as goal

abbrev pub invariant-loop-i : goal.invariant-loop-i
invariant-loop-i l = Looking l.initial.work l.work l.i l.n
