-- What the loop keeps, and what it counts down.
use Prim.Native.Nat.{ℕ, ◌-◌}
use mathlib.Core.Path.{◌≡◌}
use lib.ListN.{length}
use Rattle.print_lines.specs.Given.{stretches_in}
use Rattle.print_lines.proofs.closing_from.Given as goal

abbrev pub invariant-loop-token : goal.invariant-loop-token
invariant-loop-token l = (a : ℕ) → stretches_in l.text a l.from ≡ stretches_in l.text a l.cur.at

abbrev pub decreases-loop-token : goal.decreases-loop-token
decreases-loop-token l = length l.text - l.cur.at
