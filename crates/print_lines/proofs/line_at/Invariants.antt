-- The line is 1 and the newlines so far.
use mathlib.Core.Path.{◌≡◌}
use Rattle.print_lines.proofs.Notes.{lines_to}
use Rattle.print_lines.proofs.line_at.Given as goal

abbrev pub invariant-loop-byte : goal.invariant-loop-byte
invariant-loop-byte l = l.line ≡ lines_to l.byte-items l.byte-index
