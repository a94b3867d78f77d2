-- What the loop keeps.
use Rattle.resolve_merging.specs.Passes.{Sifted}
use Rattle.resolve_merging.proofs.sift.Given as goal

abbrev pub invariant-loop-i : goal.invariant-loop-i
invariant-loop-i g l = Sifted g.P.Pass.which l.initial.work l.work l.i l.to
