-- `print_parts::put_labels` meets its contract. The invariant: what is left to be written are the labels that are left.
-- Assumes nothing.
use mathlib.Core.Path.{sym}
use native.Mathlib.Omega.{arith}
use borrow.Author.Rules.{rules}
use Rattle.print_writing.proofs.Writing.{room-same}
use Rattle.print_writing.proofs.Going.{going, as_long}
use Rattle.print_parts.proofs.Labels.{none_left, label-room, comma-room, label-put}
use Rattle.print_parts.proofs.put_labels.Goals as goal

pub loop-left-init : goal.loop-left-init
loop-left-init c = (search rules, going _ _ _)

pub overflow_sub-left : goal.overflow_sub-left
overflow_sub-left c = omega (arith, c.loop-left-test.true)

pub overflow_cast-left : goal.overflow_cast-left
overflow_cast-left c = record { fits = omega arith }

pub mode_label-label-requires : goal.mode_label-label-requires
mode_label-label-requires c = c.requires.0

pub put_all-next-requires : goal.put_all-next-requires
put_all-next-requires c =
    room-same c.loop-left.next (sym c.mode_label-label.ensures)
    (label-room c.args.family c.loop-left.left c.loop-left.invariant.0 c.loop-left-test.true c.loop-left.invariant.1 c.requires.1)

pub put_mode_comma-next-requires : goal.put_mode_comma-next-requires
put_mode_comma-next-requires c =
    comma-room c.args.family c.loop-left.left c.loop-left.invariant.0 c.loop-left-test.true c.loop-left.invariant.1
    (rw c.mode_label-label.ensures at c.put_all-next.ensures) c.requires.1

pub loop-left-smaller : goal.loop-left-smaller
loop-left-smaller c =
    omega (arith, c.loop-left-test.true)

pub loop-left-preserved : goal.loop-left-preserved
loop-left-preserved c = (
  omega (arith, c.loop-left.invariant.0),
  label-put c.args.family c.loop-left.left c.loop-left.invariant.0 c.loop-left-test.true c.loop-left.invariant.1
      (rw c.mode_label-label.ensures at c.put_all-next.ensures) c.put_mode_comma-next.ensures,
)

pub shape_of-out : goal.shape_of-out
shape_of-out c = as_long c.loop-left.invariant.1

pub returns : goal.returns
returns c =
    none_left c.args.family c.loop-left.left c.loop-left-test.false c.loop-left.invariant.1
