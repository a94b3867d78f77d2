-- `numbers_all::put_read` meets its contract: statements are kept as they are read, and their numbers written when all are there, for which the
-- buffer has room. A refusal is the text's.
-- Assumes nothing.
use Rattle.std.specs.Prelude.{Ok}
use Prim.Native.Nat.{suc, ◌≤◌, ◌<◌}
use mathlib.Core.Path.{◌≡◌, ◌∙◌, ap, subst}
use native.Mathlib.Omega.{arith}
use lib.ListN.{length, length-set}
use Rattle.reading.specs.Read.{between, prepend}
use Rattle.read_forms.specs.Forms.{statement_in}
use Rattle.read_statements.specs.Answers.{reading_at, next_then, NextFurther}
use Rattle.read_statements.proofs.Keeping.{none_kept, one_kept, refused_then, accepted_then}
use Rattle.print_writing.proofs.Going.{as_long}
use Rattle.numbers_all.proofs.Putting.{none-put, this-fits, this-ready, one-put, all-put}
use Rattle.numbers_all.proofs.Answering.{refused_answers, double_answers}
use Rattle.numbers_all.proofs.put_read.Goals.{In-Ok-Some}
use Rattle.numbers_all.proofs.put_read.Goals as goal

pub loop-next-init : goal.loop-next-init
loop-next-init c = (rw c.new-cur.ensures (none_kept _ _ _ _), c.no_forms-forms.ensures)

pub next_statement-requires : goal.next_statement-requires
next_statement-requires c =
    let p = c.requires in
    (p.0, p.1, p.2, c.loop-next.invariant.0.few)

-- the statement that was read, and what is left behind it
ahead : (c : In-Ok-Some)
    → let a = c.args in
    reading_at a.limit a.text.now c.loop-next.n between c.loop-next.cur.at
    ≡ prepend (statement_in a.text.now c.in-Ok-Some.next.statement) (reading_at a.limit a.text.now (suc c.loop-next.n) between c.in-Ok-Some.next.cursor.at)
unfolding next_then
ahead c = c.next_statement.ensures.at_value ∙ ap (next_then _ _ _) (c.in-Ok-Some.is ∙ ap Ok c.in-Ok-Some.field-0-is)

-- its end lies behind its start, and there were not 256 before it
forward : (c : In-Ok-Some)
    → let a = c.args in
    (c.loop-next.cur.at < c.in-Ok-Some.next.cursor.at) × (c.in-Ok-Some.next.cursor.at ≤ length a.text.now) × (c.loop-next.n < 256)
unfolding NextFurther
forward c =
    subst (NextFurther c.args.text.now c.loop-next.n c.loop-next.cur.at) (c.in-Ok-Some.is ∙ ap Ok c.in-Ok-Some.field-0-is)
    c.next_statement.ensures.next_further

pub offset_bounds-forms-n : goal.offset_bounds-forms-n
offset_bounds-forms-n c = omega (arith, (forward (goal.at.offset_bounds-forms-n c).In-Ok-Some).2)

pub bounds-forms-n : goal.bounds-forms-n
bounds-forms-n c = omega (arith, (forward (goal.at.bounds-forms-n c).In-Ok-Some).2)

pub overflow_add-n : goal.overflow_add-n
overflow_add-n c = omega (arith, (forward (goal.at.overflow_add-n c).In-Ok-Some).2)

pub loop-next-smaller : goal.loop-next-smaller
loop-next-smaller c = omega (arith, forward (goal.at.loop-next-smaller c).In-Ok-Some)

pub loop-next-preserved : goal.loop-next-preserved
loop-next-preserved c = (
  one_kept c.loop-next.invariant.0 c.in-Ok-Some.next.statement c.in-Ok-Some.next.cursor.at (ahead (goal.at.loop-next-preserved c).In-Ok-Some) (omega (arith, (forward (goal.at.loop-next-preserved c).In-Ok-Some).2, c.loop-next.invariant.1)) (forward (goal.at.loop-next-preserved c).In-Ok-Some).0,
  length-set c.loop-next.forms c.loop-next.n c.in-Ok-Some.next.statement ∙ c.loop-next.invariant.1,
)

pub earliest-requires : goal.earliest-requires
earliest-requires c = c.requires.0

pub returns-in-Err : goal.returns-in-Err
unfolding next_then
returns-in-Err c =
    refused_answers c.args.limit c.args.text.now c.args.out.now c.earliest.result
    (c.earliest.ensures c.args.limit c.requires.3
    (refused_then c.loop-next.invariant.0 _ _ (c.next_statement.ensures.at_value ∙ ap (next_then _ _ _) c.in-Err.is)))

pub loop-i-init : goal.loop-i-init
unfolding next_then
loop-i-init c =
    none-put (λ f. f) _ _ _ c.loop-next.forms c.loop-next.n
    (accepted_then c.loop-next.invariant.0 c.requires.3 (c.next_statement.ensures.at_value ∙ ap (next_then _ _ _) (c.in-Ok-None.is ∙ ap Ok c.in-Ok-None.field-0-is)))
    c.loop-next.invariant.0.held

pub offset_bounds-forms-i : goal.offset_bounds-forms-i
offset_bounds-forms-i c = omega (arith, c.loop-i.invariant.held, c.loop-i-test.true, c.loop-next.invariant.1)

pub bounds-forms-i : goal.bounds-forms-i
bounds-forms-i c = omega (arith, c.loop-i.invariant.held, c.loop-i-test.true, c.loop-next.invariant.1)

pub put_counted-at-requires : goal.put_counted-at-requires
put_counted-at-requires c =
    let g = c.loop-i.invariant in
    let p = c.requires in
    (p.0, this-fits (λ f. f) g _ c.loop-i-test.true, this-ready (λ f. f) g _ c.loop-i-test.true)

pub loop-i-preserved : goal.loop-i-preserved
loop-i-preserved c =
    one-put (λ f. f) c.loop-i.invariant _ c.loop-i-test.true c.put_counted-at.ensures

pub shape_of-out : goal.shape_of-out
shape_of-out c = as_long c.loop-i.invariant.gone

pub returns : goal.returns
returns c =
    let g = c.loop-i.invariant in
    double_answers _ _ _ _ _ _ g.read c.requires.4
    (all-put (λ f. f) g c.loop-i-test.false)
