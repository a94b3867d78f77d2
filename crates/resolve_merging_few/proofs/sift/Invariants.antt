-- What the loop keeps.
use Rattle.resolve_merging_few.proofs.Sifting.{Sifting}
use Rattle.resolve_merging_few.proofs.sift.Given as goal

abbrev pub invariant-loop-i : goal.invariant-loop-i
invariant-loop-i g l = Sifting g.P.Pass.which l.initial.work l.work l.at l.i l.n
