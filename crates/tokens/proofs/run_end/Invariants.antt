-- What the loop keeps.
use Rattle.tokens.specs.Class.{class_between}
use Rattle.tokens.proofs.Runs.{Ran}
use Rattle.tokens.proofs.run_end.Given as goal

abbrev pub invariant-loop-i : goal.invariant-loop-i
invariant-loop-i l = Ran (class_between l.lo l.hi) l.text l.at l.i
