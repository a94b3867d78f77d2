-- `print_render::put_text` meets its contract. The invariant: so many statements were printed, and the others are left.
-- Assumes nothing.
use Rattle.std.specs.Prelude.{Ok}
use Prim.Native.Nat.{suc, ◌≤◌, ◌<◌}
use mathlib.Core.Path.{◌≡◌, ◌∙◌, ap, subst}
use native.Mathlib.Omega.{arith}
use lib.ListN.{length}
use Rattle.reading.specs.Read.{between, prepend}
use Rattle.read_forms.specs.Forms.{statement_in}
use Rattle.read_statements.specs.Answers.{reading_at, next_then, NextFurther}
use Rattle.print_writing.proofs.Going.{as_long}
use Rattle.print_render.proofs.Loop.{none_yet, next_fits, next-room, one_more, all-printed, never}
use Rattle.print_render.proofs.put_text.Goals.{In-Ok-Some}
use Rattle.print_render.proofs.put_text.Goals as goal

pub loop-next-init : goal.loop-next-init
loop-next-init c = rw c.new-cur.ensures (none_yet _ _ _ c.requires.3)

pub next_statement-requires : goal.next_statement-requires
next_statement-requires c =
    let p = c.requires in
    (p.0, p.1, p.2, c.loop-next.invariant.few)

-- the statement that was read, and what is left behind it
ahead : (c : In-Ok-Some)
    → let a = c.args in
    reading_at a.limit a.text.now c.loop-next.n between c.loop-next.cur.at
    ≡ prepend (statement_in a.text.now c.in-Ok-Some.next.statement) (reading_at a.limit a.text.now (suc c.loop-next.n) between c.in-Ok-Some.next.cursor.at)
unfolding next_then
ahead c = c.next_statement.ensures.at_value ∙ ap (next_then _ _ _) (c.in-Ok-Some.is ∙ ap Ok c.in-Ok-Some.field-0-is)

-- its end lies behind its start
forward : (c : In-Ok-Some)
    → let a = c.args in
    (c.loop-next.cur.at < c.in-Ok-Some.next.cursor.at) × (c.in-Ok-Some.next.cursor.at ≤ length a.text.now)
unfolding NextFurther
forward c =
    let f = subst (NextFurther c.args.text.now c.loop-next.n c.loop-next.cur.at) (c.in-Ok-Some.is ∙ ap Ok c.in-Ok-Some.field-0-is) c.next_statement.ensures.next_further in
    (f.0, f.1)

pub put_next-at-requires : goal.put_next-at-requires
put_next-at-requires c =
    let p = c.requires in (
      p.0,
      p.1,
      p.2,
      next_fits c.loop-next.invariant c.in-Ok-Some.next.statement c.in-Ok-Some.next.cursor.at (ahead (goal.at.put_next-at-requires c).In-Ok-Some),
      next-room c.loop-next.invariant c.in-Ok-Some.next.statement c.in-Ok-Some.next.cursor.at (ahead (goal.at.put_next-at-requires c).In-Ok-Some),
    )

pub overflow_add-n : goal.overflow_add-n
overflow_add-n c =
    omega (arith, forward (goal.at.overflow_add-n c).In-Ok-Some, c.loop-next.invariant.few)

pub loop-next-smaller : goal.loop-next-smaller
loop-next-smaller c = omega (arith, forward (goal.at.loop-next-smaller c).In-Ok-Some)

pub loop-next-preserved : goal.loop-next-preserved
loop-next-preserved c =
    one_more c.loop-next.invariant c.in-Ok-Some.next.statement c.in-Ok-Some.next.cursor.at (ahead (goal.at.loop-next-preserved c).In-Ok-Some) (omega (arith, forward (goal.at.loop-next-preserved c).In-Ok-Some, c.loop-next.invariant.few)) c.put_next-at.ensures

pub shape_of-out-in-Ok-None : goal.shape_of-out-in-Ok-None
shape_of-out-in-Ok-None c = as_long c.loop-next.invariant.gone

pub returns-in-Ok-None : goal.returns-in-Ok-None
unfolding next_then
returns-in-Ok-None c =
    all-printed c.loop-next.invariant (c.next_statement.ensures.at_value ∙ ap (next_then _ _ _) (c.in-Ok-None.is ∙ ap Ok c.in-Ok-None.field-0-is))

pub shape_of-out-in-Err : goal.shape_of-out-in-Err
shape_of-out-in-Err c = as_long c.loop-next.invariant.gone

pub returns-in-Err : goal.returns-in-Err
unfolding next_then
returns-in-Err c =
    never c.loop-next.invariant _ _ (c.next_statement.ensures.at_value ∙ ap (next_then _ _ _) c.in-Err.is)
