-- What the loop keeps.
use Rattle.resolve_merging.proofs.IndexLaws.{Collecting}
use Rattle.resolve_merging.proofs.collect_forms.Given as goal

abbrev pub invariant-loop-i : goal.invariant-loop-i
invariant-loop-i l = Collecting l.initial.work l.work l.m l.k l.i
