-- `resolve_settling::note_count` meets its contract. Assumes nothing.
use Prim.Native.Nat.{◌+◌}
use mathlib.Core.Path.{ap, sym}
use native.Mathlib.Omega.{arith}
use mathlib.Core.Bool.{Bool}
use lib.ListN.{length}
use Rattle.resolve_outputs.specs.Entries.{additive_note}
use Rattle.resolve_settling.proofs.note_count.Goals as goal

pub returns-then-additive : goal.returns-then-additive
returns-then-additive c = sym (ap (λ (t : Bool). c.args.dropped + length (additive_note t)) c.if-additive.true)

pub returns : goal.returns
returns c = omega (arith, ap (λ (t : Bool). length (additive_note t)) c.if-additive.false)
