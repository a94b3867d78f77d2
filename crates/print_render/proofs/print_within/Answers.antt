-- `print_render::print_within` meets its contract: statements are kept as they are read, and printed when all are there. Assumes nothing.
use Rattle.std.specs.Prelude.{Ok, Err}
use Rattle.std.proofs.Common.{rules}
use Prim.Native.Nat.{suc, ◌≤◌, ◌<◌}
use mathlib.Core.Path.{◌≡◌, refl, ◌∙◌, ap, subst}
use native.Mathlib.Omega.{arith}
use lib.ListN.{length, length-set}
use Rattle.reading.specs.Read.{between, prepend}
use Rattle.read_forms.specs.Forms.{statement_in}
use Rattle.read_statements.specs.Answers.{reading_at, next_then, NextFurther}
use Rattle.print_writing.proofs.Going.{as_long}
use Rattle.print_render.specs.Text.{KeptAs}
use Rattle.read_statements.proofs.Keeping.{none_kept, one_kept, refused_then, accepted_then}
use Rattle.print_render.proofs.Keeping.{none-put, this-fits, this-room, one-put, all-put}
use Rattle.print_render.proofs.print_within.Given.{Over}
use Rattle.print_render.proofs.print_within.Goals.{In-Some}
use Rattle.print_render.proofs.print_within.Goals as goal

pub loop-next-init : goal.loop-next-init
loop-next-init g c = (rw c.new-cur.ensures (none_kept _ _ _ _), c.no_forms-forms.ensures)

pub next_statement-requires : goal.next_statement-requires
next_statement-requires g c =
    let p = c.requires.tables in
    (p.0, p.1, p.2, c.loop-next.invariant.0.few)

-- the statement that was read, and what is left behind it
ahead : (g : Over) (c : In-Some g)
    → let a = c.args in
    reading_at a.limit a.text.now c.loop-next.n between c.loop-next.cur.at
    ≡ prepend (statement_in a.text.now c.in-Some.next.statement) (reading_at a.limit a.text.now (suc c.loop-next.n) between c.in-Some.next.cursor.at)
unfolding next_then
ahead g c = c.next_statement.ensures.at_value ∙ ap (next_then _ _ _) (c.in_ok-next.was ∙ ap Ok c.in-Some.is)

-- its end lies behind its start
forward : (g : Over) (c : In-Some g)
    → let a = c.args in
    (c.loop-next.cur.at < c.in-Some.next.cursor.at) × (c.in-Some.next.cursor.at ≤ length a.text.now)
unfolding NextFurther
forward g c =
    let f = subst (NextFurther c.args.text.now c.loop-next.n c.loop-next.cur.at) (c.in_ok-next.was ∙ ap Ok c.in-Some.is) c.next_statement.ensures.next_further in
    (f.0, f.1)

pub returns-then-n : goal.returns-then-n
unfolding KeptAs
returns-then-n g c = refl

pub offset_bounds-forms-n : goal.offset_bounds-forms-n
offset_bounds-forms-n g c = omega (arith, c.if-n.false)

pub bounds-forms-n : goal.bounds-forms-n
bounds-forms-n g c = omega (arith, c.if-n.false)

pub overflow_add-n : goal.overflow_add-n
overflow_add-n g c = omega (arith, c.if-n.false)

pub loop-next-smaller : goal.loop-next-smaller
loop-next-smaller g c = omega (arith, forward g (goal.at.loop-next-smaller g c).In-Some)

pub loop-next-preserved : goal.loop-next-preserved
loop-next-preserved g c = (
  one_kept c.loop-next.invariant.0 c.in-Some.next.statement c.in-Some.next.cursor.at (ahead g (goal.at.loop-next-preserved g c).In-Some) (omega (arith, c.if-n.false, c.loop-next.invariant.1)) (forward g (goal.at.loop-next-preserved g c).In-Some).0,
  length-set c.loop-next.forms c.loop-next.n c.in-Some.next.statement ∙ c.loop-next.invariant.1,
)

pub returns-in_err-next : goal.returns-in_err-next
unfolding KeptAs next_then
returns-in_err-next g c =
    let told : c.from_residual.result ≡ Err c.in_err-next.field-0.0 = search rules in
    rw told
    (refused_then c.loop-next.invariant.0 _ _ (c.next_statement.ensures.at_value ∙ ap (next_then _ _ _) c.in_err-next.was), refl)

pub loop-i-init : goal.loop-i-init
unfolding next_then
loop-i-init g c =
    none-put _ _ _ c.loop-next.forms c.loop-next.n
    (accepted_then c.loop-next.invariant.0 c.requires.tables.3 (c.next_statement.ensures.at_value ∙ ap (next_then _ _ _) (c.in_ok-next.was ∙ ap Ok c.in_default.is)))
    c.loop-next.invariant.0.held

pub offset_bounds-forms-i : goal.offset_bounds-forms-i
offset_bounds-forms-i g c = omega (arith, c.loop-i.invariant.held, c.loop-i-test.true, c.loop-next.invariant.1)

pub bounds-forms-i : goal.bounds-forms-i
bounds-forms-i g c = omega (arith, c.loop-i.invariant.held, c.loop-i-test.true, c.loop-next.invariant.1)

pub put_next-at-requires : goal.put_next-at-requires
put_next-at-requires g c =
    let g = c.loop-i.invariant in
    let p = c.requires.tables in
    (p.0, p.1, p.2, this-fits g _ c.loop-i-test.true, this-room g _ c.loop-i-test.true)

pub loop-i-preserved : goal.loop-i-preserved
loop-i-preserved g c =
    one-put c.loop-i.invariant _ c.loop-i-test.true c.put_next-at.ensures

pub shape_of-out : goal.shape_of-out
shape_of-out g c = as_long c.loop-i.invariant.gone

pub returns : goal.returns
unfolding KeptAs
returns g c =
    all-put c.loop-i.invariant c.loop-i-test.false c.requires.tables.4
