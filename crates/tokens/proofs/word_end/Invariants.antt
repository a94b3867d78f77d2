-- What the loop keeps.
use Rattle.tokens.specs.Class.{class_between}
use Rattle.tokens.proofs.Runs.{Ran}
use Rattle.tokens.proofs.word_end.Given as goal

abbrev pub invariant-loop-i : goal.invariant-loop-i
invariant-loop-i l = Ran (class_between 7 9) l.text l.at l.i
