-- What the loop keeps, and what it counts down.
use Rattle.read_profile.proofs.Judging.{Judging}
use Rattle.read_profile.proofs.first_fault.Given as goal

abbrev pub invariant-loop-i : goal.invariant-loop-i
invariant-loop-i l = Judging l.text l.space.forms l.space.count l.seen l.i
