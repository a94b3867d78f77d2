-- What the loop keeps.
use Rattle.resolve_outputs.proofs.Filling.{Filled}
use Rattle.resolve_outputs.proofs.put_first.Given as goal

abbrev pub invariant-loop-i : goal.invariant-loop-i
invariant-loop-i g l = Filled (λ x. x) l.made l.initial.out l.count l.i l.out
