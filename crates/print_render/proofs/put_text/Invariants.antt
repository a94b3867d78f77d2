-- What the loop keeps, and what it counts down.
use Prim.Native.Nat.{◌-◌}
use lib.ListN.{length}
use Rattle.print_render.proofs.Loop.{Sofar}
use Rattle.print_render.proofs.put_text.Given as goal

abbrev pub invariant-loop-next : goal.invariant-loop-next
invariant-loop-next l = Sofar l.limit l.text l.initial.out l.out l.n l.cur.at l.at

abbrev pub decreases-loop-next : goal.decreases-loop-next
decreases-loop-next l = length l.text - l.cur.at
