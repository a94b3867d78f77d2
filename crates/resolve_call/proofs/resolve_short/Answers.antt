-- `resolve_call::resolve_short` meets its contract: what the statements bring is taken, and then merged and grouped. Assumes nothing.
use Rattle.std.specs.Prelude as prelude
use mathlib.Core.Path.{refl, ◌∙◌, ap}
use native.Mathlib.Omega.{arith}
use Rattle.print_writing.proofs.Writing.{same-room}
use Rattle.resolve_context.proofs.Meaning.{handed-heads_fit}
use Rattle.resolve_taking.specs.Taken.{TakenAs}
use Rattle.resolve_settling.specs.Answers.{resolved_as}
use Rattle.resolve_settling.specs.Attempts.{AttemptAs}
use Rattle.resolve_settling.proofs.Answering.{refused_answers}
use Rattle.resolve_settling.proofs.Grouping.{same-few}
use Rattle.resolve_call.proofs.There.{text-there, text_resolved}
use Rattle.resolve_call.proofs.resolve_short.Goals as goal

pub take_text-requires : goal.take_text-requires
take_text-requires c = let p = c.requires in (p.0, p.1, p.2, p.3)

pub returns-in-Err : goal.returns-in-Err
unfolding AttemptAs TakenAs resolved_as
returns-in-Err c =
    refused_answers _ _ _ (rw (c.in_ok-tally.was ∙ ap prelude.Some c.in-Err.is) at c.take_text.ensures) refl

pub returns-in_err-tally : goal.returns-in_err-tally
unfolding AttemptAs
returns-in_err-tally c = rw c.from_residual.ensures (refl, refl)

-- more terms than scans are for
pub returns-then-tally-gt-FEW_TERMS : goal.returns-then-tally-gt-FEW_TERMS
unfolding AttemptAs
returns-then-tally-gt-FEW_TERMS c = (refl, refl)

pub read_layout-requires : goal.read_layout-requires
unfolding TakenAs
read_layout-requires c =
    let a = c.args in
    let h = rw (c.in_ok-tally.was ∙ ap prelude.Some c.in-Ok.is) at c.take_text.ensures in
    handed-heads_fit a.block.now a.lists.now h.handed

pub settle_few-requires : goal.settle_few-requires
unfolding TakenAs
settle_few-requires c =
    let h = rw (c.in_ok-tally.was ∙ ap prelude.Some c.in-Ok.is) at c.take_text.ensures in (
      c.requires.1,
      c.requires.2,
      record { is = h.handed; there = c.read_layout.ensures },
      text-there h refl c.requires.4,
      omega (arith, c.requires.4, same-room h.brought.added.terms),
      c.if-tally-gt-FEW_TERMS.false,
    )

-- the working buffer is as long as it was
pub shape_of-work : goal.shape_of-work
shape_of-work c =
    omega arith

pub returns : goal.returns
unfolding TakenAs
returns c =
    let h = rw (c.in_ok-tally.was ∙ ap prelude.Some c.in-Ok.is) at c.take_text.ensures in
    same-few _ _ _ _ _ _ _ _ c.settle_few.result (text_resolved h refl c.requires.4)
    (c.settle_few.ensures.0 (text-there h refl c.requires.4))
