-- What the loop keeps.
use Rattle.resolve_merging.proofs.IndexLaws.{Numbering}
use Rattle.resolve_merging.proofs.number_groups.Given as goal

abbrev pub invariant-loop-j : goal.invariant-loop-j
invariant-loop-j l = Numbering l.initial.work l.work l.j l.k
