-- What the loop keeps, and what it counts down.
use Prim.Native.Nat.{◌-◌}
use mathlib.Core.Path.{◌≡◌}
use lib.ListN.{length}
use Rattle.read_forms.specs.Forms.{statement_in}
use Rattle.read_statements.proofs.Keeping.{Keeping}
use Rattle.numbers_all.proofs.Putting.{Putting}
use Rattle.numbers_all.proofs.put_read.Given as goal

abbrev pub invariant-loop-next : goal.invariant-loop-next
invariant-loop-next l = Keeping (statement_in l.text) l.limit l.text l.forms l.n l.cur.at × (length l.forms ≡ 256)

abbrev pub decreases-loop-next : goal.decreases-loop-next
decreases-loop-next l = length l.text - l.cur.at

abbrev pub invariant-loop-i : goal.invariant-loop-i
invariant-loop-i l = Putting (λ f. f) l.limit l.text l.initial.out l.out l.forms l.n l.i l.at
