-- The number that is left is less each time.
use Rattle.replay_requests.proofs.statements.put_places.Given as goal

abbrev pub decreases-loop-left : goal.decreases-loop-left
decreases-loop-left l = l.left
