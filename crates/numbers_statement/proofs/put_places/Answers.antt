-- `numbers_statement::put_places` meets its contract. The invariant: what is left to be written are the modes that are left.
-- Assumes nothing.
use mathlib.Core.List.{[], ◌∷◌}
use native.Mathlib.Omega.{arith}
use borrow.Author.Rules.{rules}
use Prim.Native.Nat.{◌-◌, ◌/◌, ◌%◌}
use Rattle.read_packs.specs.Packs.{places}
use Rattle.read_packs.proofs.Packed.{no_place, next_place}
use Rattle.print_writing.proofs.Going.{going, told, further, no_more, as_long}
use Rattle.numbers_statement.proofs.Pieces.{ready_first}
use Rattle.numbers_statement.proofs.put_places.Goals as goal

pub loop-left-init : goal.loop-left-init
loop-left-init c = (search rules, going _ _ _)

pub overflow_sub-left : goal.overflow_sub-left
overflow_sub-left c = omega (arith, c.loop-left-test.true)

pub overflow_cast-left : goal.overflow_cast-left
overflow_cast-left c = record { fits = omega arith }

pub put-next-requires : goal.put-next-requires
put-next-requires c =
    let n = c.loop-left.left in
    ready_first ((n % 16 - 1) ∷ []) (places (n / 16)) c.requires
    (told (next_place n c.loop-left.invariant.0 c.loop-left-test.true) c.loop-left.invariant.1)

pub loop-left-smaller : goal.loop-left-smaller
loop-left-smaller c = omega (arith, c.loop-left-test.true)

pub loop-left-preserved : goal.loop-left-preserved
loop-left-preserved c =
    let n = c.loop-left.left in
    (omega (arith, c.loop-left.invariant.0), further (told (next_place n c.loop-left.invariant.0 c.loop-left-test.true) c.loop-left.invariant.1) c.put-next.ensures)

pub shape_of-out : goal.shape_of-out
shape_of-out c = as_long c.loop-left.invariant.1

pub returns : goal.returns
returns c = no_more (told (no_place c.loop-left.left c.loop-left-test.false) c.loop-left.invariant.1)
