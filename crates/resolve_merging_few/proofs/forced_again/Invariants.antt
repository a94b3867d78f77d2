-- What the loop keeps.
use Rattle.resolve_merging_few.proofs.Forcing.{Forcing}
use Rattle.resolve_merging_few.proofs.forced_again.Given as goal

abbrev pub invariant-loop-i : goal.invariant-loop-i
invariant-loop-i l = Forcing l.work l.i l.n
