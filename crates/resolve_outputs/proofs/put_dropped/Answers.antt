-- `resolve_outputs::put_dropped` meets its contract: so many notes stand there, and the others are as they were.
-- Assumes nothing.
use mathlib.Core.Path.{refl}
use Rattle.resolve_outputs.proofs.Filling.{filled_next}
use Rattle.resolve_outputs.proofs.put_dropped.Goals as goal

pub loop-i-preserved : goal.loop-i-preserved
loop-i-preserved c = filled_next c.loop-i.invariant 0 c.loop-i-test.true refl
