-- `resolve_grounding::put_names_at` meets its contract. The invariant: what is left to be written are the names that are left.
-- Assumes nothing.
use mathlib.Core.Path.{sym}
use native.Mathlib.Omega.{arith}
use Rattle.resolve_context.specs.Lists.{names_in}
use Rattle.print_writing.proofs.Writing.{room-same}
use Rattle.print_writing.proofs.Going.{going}
use Rattle.resolve_grounding.proofs.Names.{none_left, name-room, comma-room, name-put}
use Rattle.resolve_grounding.proofs.put_names_at.Goals as goal

pub loop-i-init : goal.loop-i-init
loop-i-init c = going _ _ _

pub name_at-name-requires : goal.name_at-name-requires
name_at-name-requires c =
    (c.requires.1.below c.loop-i.i c.loop-i-test.true, c.requires.0)

pub put_all-next-requires : goal.put_all-next-requires
put_all-next-requires c =
    room-same c.loop-i.next (sym c.name_at-name.ensures)
    (name-room (names_in c.args.block.now c.args.lists.now c.args.names) c.args.list.now c.loop-i.i
    c.loop-i-test.true c.loop-i.invariant c.requires.2)

pub put_comma-next-requires : goal.put_comma-next-requires
put_comma-next-requires c =
    comma-room (names_in c.args.block.now c.args.lists.now c.args.names) c.args.list.now c.loop-i.i
    c.loop-i-test.true c.loop-i.invariant
    (rw c.name_at-name.ensures at c.put_all-next.ensures) c.requires.2

pub loop-i-preserved : goal.loop-i-preserved
loop-i-preserved c =
    name-put (names_in c.args.block.now c.args.lists.now c.args.names) c.args.list.now c.loop-i.i
    c.loop-i-test.true c.loop-i.invariant
    (rw c.name_at-name.ensures at c.put_all-next.ensures) c.put_comma-next.ensures

pub returns : goal.returns
returns c =
    none_left (names_in c.args.block.now c.args.lists.now c.args.names) c.args.list.now c.loop-i.i
    (omega (arith, c.loop-i-test.false)) c.loop-i.invariant
