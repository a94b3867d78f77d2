-- What the loop keeps, and what it counts down.
use Prim.Native.Nat.{◌-◌}
use mathlib.Core.Path.{◌≡◌}
use lib.ListN.{length}
use Rattle.read_statements.proofs.Keeping.{Keeping}
use Rattle.read_space.specs.Space.{form_in}
use Rattle.read_space.proofs.read_space.Given as goal

abbrev pub invariant-loop-next : goal.invariant-loop-next
invariant-loop-next l = Keeping (form_in l.text) l.limit l.text l.forms l.n l.cur.at × (length l.forms ≡ 256)

abbrev pub decreases-loop-next : goal.decreases-loop-next
decreases-loop-next l = length l.text - l.cur.at
