-- What the loop keeps.
use Rattle.labels.proofs.Words.{Alike}
use Rattle.labels.proofs.same_word.Given as goal

abbrev pub invariant-loop-i : goal.invariant-loop-i
invariant-loop-i l = Alike l.word l.label l.i
