-- Each call of itself has the tens only.
use Rattle.print_writing.proofs.+put_number.Given as goal

abbrev pub decreases-put_number : goal.decreases-put_number
decreases-put_number l = l.n
