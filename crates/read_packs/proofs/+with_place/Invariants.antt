-- Each call of itself has a smaller number: the list without its first mode.
use Rattle.read_packs.proofs.+with_place.Given as goal

abbrev pub decreases-with_place : goal.decreases-with_place
decreases-with_place l = l.packed
