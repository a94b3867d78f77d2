-- So many of the elements stand there, and the others are as they were.
use mathlib.Core.Path.{◌≡◌}
use lib.ListN.{take}
use Rattle.print_writing.specs.Written.{patch}
use Rattle.print_writing.proofs.copy_all.Given as goal

abbrev pub invariant-loop-i : goal.invariant-loop-i
invariant-loop-i g l = l.out ≡ patch l.at l.initial.out (take l.i l.items)
