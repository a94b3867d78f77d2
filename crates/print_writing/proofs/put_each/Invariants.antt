-- So many of the elements were written.
use lib.ListN.{take}
use Rattle.print_writing.specs.Written.{Written}
use Rattle.print_writing.proofs.put_each.Given as goal

abbrev pub invariant-loop-item : goal.invariant-loop-item
invariant-loop-item g l = Written l.initial.out l.at (take l.item-index l.items) l.out l.next
