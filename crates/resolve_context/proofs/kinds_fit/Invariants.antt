-- What the loop keeps.
use Prim.Native.Nat.{◌+◌, ◌*◌, ◌-◌}
use mathlib.Core.Path.{◌≡◌}
use lib.Dec.{leb}
use Rattle.text.specs.Bytes.{every}
use Rattle.resolve_context.proofs.Pairs.{kinds_at}
use Rattle.resolve_context.proofs.kinds_fit.Given as goal

abbrev pub invariant-loop-i : goal.invariant-loop-i
invariant-loop-i l =
    let n = l.names in
    every (λ k. leb k 1) (kinds_at l.lists (n.start + 3 * l.i) (n.count - l.i)) ≡ every (λ k. leb k 1) (kinds_at l.lists n.start n.count)
