-- What the loop keeps, and what it counts down.
use mathlib.Core.Path.{◌≡◌}
use Prim.Native.Nat.{◌+◌, ◌≤◌}
use lib.ListN.{length}
use Rattle.read_packs.specs.Packs.{places}
use Rattle.numbers_statement.proofs.how_many.Given as goal

abbrev pub invariant-loop-left : goal.invariant-loop-left
invariant-loop-left l = (l.n + l.left ≤ l.packed) × (l.n + length (places l.left) ≡ length (places l.packed))

abbrev pub decreases-loop-left : goal.decreases-loop-left
decreases-loop-left l = l.left
