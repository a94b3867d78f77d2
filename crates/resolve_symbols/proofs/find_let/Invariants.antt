-- What the loop keeps.
use Rattle.resolve_symbols.proofs.Lets.{Passed}
use Rattle.resolve_symbols.proofs.find_let.Given as goal

abbrev pub invariant-loop-k : goal.invariant-loop-k
invariant-loop-k l = Passed l.text l.lets l.word l.n l.k
