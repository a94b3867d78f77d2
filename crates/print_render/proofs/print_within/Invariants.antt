-- What the loop keeps, and what it counts down.
use Prim.Native.Nat.{◌-◌}
use mathlib.Core.Path.{◌≡◌}
use lib.ListN.{length}
use Rattle.read_forms.specs.Forms.{statement_in}
use Rattle.read_statements.proofs.Keeping.{Keeping}
use Rattle.print_render.proofs.Keeping.{Putting}
use Rattle.print_render.proofs.print_within.Given as goal

abbrev pub invariant-loop-next : goal.invariant-loop-next
invariant-loop-next g l = Keeping (statement_in l.text) l.limit l.text l.forms l.n l.cur.at × (length l.forms ≡ g.row.N)

abbrev pub decreases-loop-next : goal.decreases-loop-next
decreases-loop-next g l = length l.text - l.cur.at

abbrev pub invariant-loop-i : goal.invariant-loop-i
invariant-loop-i g l = Putting l.limit l.text l.initial.out l.out l.forms l.n l.i l.at
