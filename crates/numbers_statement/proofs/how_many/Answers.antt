-- `numbers_statement::how_many` meets its contract. The invariant: those that were counted and those that are left are all. Assumes nothing.
use mathlib.Core.Path.{ap}
use native.Mathlib.Omega.{arith}
use lib.ListN.{length}
use Rattle.read_packs.proofs.Packed.{no_place, next_place}
use Rattle.numbers_statement.proofs.how_many.Goals as goal

pub loop-left-init : goal.loop-left-init
loop-left-init c = (omega arith, omega arith)

pub overflow_add-n : goal.overflow_add-n
overflow_add-n c = omega (arith, c.loop-left.invariant.0)

pub loop-left-smaller : goal.loop-left-smaller
loop-left-smaller c = omega (arith, c.loop-left-test.true)

pub loop-left-preserved : goal.loop-left-preserved
loop-left-preserved c =
    let m = next_place c.loop-left.left (omega (arith, c.loop-left.invariant.0)) c.loop-left-test.true in
    (omega (arith, c.loop-left.invariant.0, c.loop-left-test.true), omega (arith, c.loop-left.invariant.1, ap length m))

pub returns : goal.returns
returns c = omega (arith, c.loop-left.invariant.1, ap length (no_place c.loop-left.left c.loop-left-test.false))
