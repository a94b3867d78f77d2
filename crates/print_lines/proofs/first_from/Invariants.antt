-- What the loop keeps, and what it counts down.
use Prim.Native.Nat.{◌-◌}
use mathlib.Core.Path.{◌≡◌}
use lib.ListN.{length}
use Rattle.print_lines.specs.Given.{stretches_before}
use Rattle.print_lines.proofs.first_from.Given as goal

abbrev pub invariant-loop-token : goal.invariant-loop-token
invariant-loop-token l = stretches_before l.text l.from ≡ stretches_before l.text l.cur.at

abbrev pub decreases-loop-token : goal.decreases-loop-token
decreases-loop-token l = length l.text - l.cur.at
