-- What the loop keeps, and what it counts down.
use Prim.Native.Nat.{◌<◌}
use Rattle.read_packs.specs.Packs.{places}
use Rattle.print_writing.proofs.Going.{Going}
use Rattle.numbers_statement.proofs.put_places.Given as goal

abbrev pub invariant-loop-left : goal.invariant-loop-left
invariant-loop-left l = (l.left < 4294967296) × Going l.initial.out l.at (places l.packed) l.out l.next (places l.left)

abbrev pub decreases-loop-left : goal.decreases-loop-left
decreases-loop-left l = l.left
