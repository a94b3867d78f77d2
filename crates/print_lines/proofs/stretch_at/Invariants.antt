-- What the loop keeps, and what it counts down.
use mathlib.Core.Path.{◌≡◌}
use lib.ListN.{get_or}
use Rattle.lines.specs.Stretches.{stretch, stretch_at}
use Rattle.print_lines.specs.Given.{stretches_before}
use Rattle.print_lines.proofs.stretch_at.Given as goal

abbrev pub invariant-loop-first : goal.invariant-loop-first
invariant-loop-first l = get_or (stretches_before l.text l.at) l.left (stretch 0 0) ≡ stretch_at l.text l.index

abbrev pub decreases-loop-first : goal.decreases-loop-first
decreases-loop-first l = l.left
