-- What the loop keeps.
use Rattle.resolve_outputs.specs.Entries.{dropped_at}
use Rattle.resolve_outputs.proofs.Filling.{Filled}
use Rattle.resolve_outputs.proofs.put_dropped.Given as goal

abbrev pub invariant-loop-i : goal.invariant-loop-i
invariant-loop-i l = Filled dropped_at l.dropped l.initial.notes l.count l.i l.notes
