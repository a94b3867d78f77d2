-- `read_space::read_space` meets its contract: statements are kept as they are read, and a refusal is the text's. Assumes nothing.
use Rattle.std.specs.Prelude.{Ok}
use Prim.Native.Nat.{◌≤◌, ◌<◌}
use mathlib.Core.Path.{◌∙◌, ap, sym, subst}
use native.Mathlib.Omega.{arith}
use lib.ListN.{length, length-set}
use Rattle.read_statements.specs.Answers.{next_then, NextFurther}
use Rattle.read_statements.proofs.Keeping.{none_kept, one_kept, refused_then, accepted_then}
use Rattle.read_space.specs.Space.{space_as}
use Rattle.read_space.proofs.read_space.Goals.{In-Ok-Some}
use Rattle.read_space.proofs.read_space.Goals as goal

pub loop-next-init : goal.loop-next-init
loop-next-init c = (rw c.new-cur.ensures (none_kept _ _ _ _), c.no_forms-forms.ensures)

pub next_statement-requires : goal.next_statement-requires
next_statement-requires c =
    let p = c.requires in
    (p.0, p.1, p.2, c.loop-next.invariant.0.few)

-- its end lies behind its start, and there were not 256 before it
forward : (c : In-Ok-Some)
    → let a = c.args in
    (c.loop-next.cur.at < c.in-Ok-Some.next.cursor.at) × (c.in-Ok-Some.next.cursor.at ≤ length a.text.now) × (c.loop-next.n < 256)
unfolding NextFurther
forward c =
    subst (NextFurther c.args.text.now c.loop-next.n c.loop-next.cur.at) (c.in-Ok-Some.is ∙ ap Ok c.in-Ok-Some.field-0-is)
    c.next_statement.ensures.next_further

pub offset_bounds-forms-n : goal.offset_bounds-forms-n
offset_bounds-forms-n c = omega (arith, (forward (goal.at.offset_bounds-forms-n c).In-Ok-Some).2)

pub bounds-forms-n : goal.bounds-forms-n
bounds-forms-n c = omega (arith, (forward (goal.at.bounds-forms-n c).In-Ok-Some).2)

pub overflow_add-n : goal.overflow_add-n
overflow_add-n c = omega (arith, (forward (goal.at.overflow_add-n c).In-Ok-Some).2)

pub loop-next-smaller : goal.loop-next-smaller
loop-next-smaller c = omega (arith, forward (goal.at.loop-next-smaller c).In-Ok-Some)

pub loop-next-preserved : goal.loop-next-preserved
unfolding next_then
loop-next-preserved c = (
  one_kept c.loop-next.invariant.0 (record { statement = c.in-Ok-Some.next.statement }) c.in-Ok-Some.next.cursor.at
      (c.next_statement.ensures.at_value ∙ ap (next_then _ _ _) (c.in-Ok-Some.is ∙ ap Ok c.in-Ok-Some.field-0-is))
      (omega (arith, (forward (goal.at.loop-next-preserved c).In-Ok-Some).2, c.loop-next.invariant.1))
      (forward (goal.at.loop-next-preserved c).In-Ok-Some).0,
  length-set c.loop-next.forms c.loop-next.n (record { statement = c.in-Ok-Some.next.statement }) ∙ c.loop-next.invariant.1,
)

pub returns-in-Ok-None : goal.returns-in-Ok-None
unfolding next_then space_as
returns-in-Ok-None c = (
  sym
      (accepted_then c.loop-next.invariant.0 c.requires.3
      (c.next_statement.ensures.at_value ∙ ap (next_then _ _ _) (c.in-Ok-None.is ∙ ap Ok c.in-Ok-None.field-0-is))),
  record { wide = c.loop-next.invariant.1; few = omega (arith, c.loop-next.invariant.0.held, c.loop-next.invariant.1) },
)

pub earliest-requires : goal.earliest-requires
earliest-requires c = c.requires.0

pub returns-in-Err : goal.returns-in-Err
unfolding next_then space_as
returns-in-Err c = (
  sym
      (c.earliest.ensures c.args.limit c.requires.3
      (refused_then c.loop-next.invariant.0 _ _ (c.next_statement.ensures.at_value ∙ ap (next_then _ _ _) c.in-Err.is))),
  record { wide = c.loop-next.invariant.1; few = omega arith },
)
