-- What the loop keeps.
use Rattle.resolve_merging.proofs.GroupLaws.{Listing}
use Rattle.resolve_merging.proofs.list_groups.Given as goal

abbrev pub invariant-loop-i : goal.invariant-loop-i
invariant-loop-i l = Listing l.initial.work l.work l.i l.k
