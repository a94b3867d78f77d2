-- `resolve_outputs::put_additive` meets its contract.
-- Assumes nothing.
use mathlib.Core.Path.{ap}
use native.Mathlib.Omega.{arith}
use lib.ListN.{length}
use Rattle.resolve_outputs.specs.Entries.{additive_note}
use Rattle.resolve_outputs.proofs.put_additive.Goals as goal

pub bounds-notes-at : goal.bounds-notes-at
bounds-notes-at c = omega (arith, c.requires, ap (λ t. length (additive_note t)) c.if-additive.true)
