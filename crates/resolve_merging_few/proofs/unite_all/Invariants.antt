-- What the loop keeps.
use Rattle.resolve_merging_few.proofs.Uniting.{Uniting}
use Rattle.resolve_merging_few.proofs.unite_all.Given as goal

abbrev pub invariant-loop-i : goal.invariant-loop-i
invariant-loop-i l = Uniting l.initial.work l.work l.listed l.united.effects l.united.groups l.i
