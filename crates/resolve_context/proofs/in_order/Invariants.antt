-- What the loop keeps.
use Prim.Native.Nat.{◌+◌, ◌*◌, ◌-◌}
use mathlib.Core.Path.{◌≡◌}
use Rattle.resolving.specs.Given.{in_order}
use Rattle.resolving.specs.Handed.{pairs_at}
use Rattle.resolve_context.proofs.in_order.Given as goal

abbrev pub invariant-loop-i : goal.invariant-loop-i
invariant-loop-i l =
    let n = l.names in
    in_order l.block l.end (pairs_at l.lists (n.start + n.step * l.i) n.step (n.count - l.i)) ≡ in_order l.block 0 (pairs_at l.lists n.start n.step n.count)
