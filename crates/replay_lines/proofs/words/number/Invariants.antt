-- Each turn passes a digit, and the number has eighteen at most.
use Prim.Native.Nat.{◌<◌}
use lib.ListN.{length}
use Rattle.replay_lines.proofs.words.number.Given as goal

abbrev pub invariant-loop-rest : goal.invariant-loop-rest
invariant-loop-rest l = l.value < 1000000000000000000

abbrev pub decreases-loop-rest : goal.decreases-loop-rest
decreases-loop-rest l = length l.rest
