-- `print_writing::copy_all` meets its contract. The invariant: so many of the elements stand there, and the others are as they were.
-- Assumes nothing.
use mathlib.Core.Path.{sym}
use Rattle.print_writing.proofs.Writing.{patch-none, patch-next}
use Rattle.print_writing.proofs.copy_all.Goals as goal

pub loop-i-init : goal.loop-i-init
loop-i-init g c = sym (patch-none _ _)

pub loop-i-preserved : goal.loop-i-preserved
loop-i-preserved g c =
    patch-next _ _ _ _ _ c.index-items-i.is c.loop-i-test.true c.loop-i.invariant
