-- `resolve_call::resolve_long` meets its contract: what the statements bring is taken, and then merged and grouped, on a bench, of which the effects are
-- put into the working buffer. Of full size, the buffers have room for all LETs and for every ground text.
-- Assumes nothing.
use Rattle.std.specs.Prelude as prelude
use Rattle.std.proofs.lemmas.Result.{err_from_is_err_and}
use mathlib.Core.Path.{◌≡◌, refl, ◌∙◌, ap, subst}
use native.Mathlib.Omega.{arith}
use lib.ListN.{length}
use Rattle.print_writing.proofs.Writing.{same-room}
use Rattle.resolving.specs.Resolve.{merge_and_ground}
use Rattle.resolving.specs.Handed.{handed_context, resolve_handed}
use Rattle.resolve_context.proofs.Meaning.{handed-heads_fit}
use Rattle.resolve_taking.specs.Taken.{TakenAs}
use Rattle.resolve_settling.specs.Answers.{resolved_as, Answers}
use Rattle.resolve_settling.specs.Attempts.{StaysWritten, AttemptAs, Roomy}
use Rattle.resolve_settling.proofs.Answering.{refused_answers, same_answers}
use Rattle.resolve_call.proofs.Bench.{told-few, told-stand, answers-put}
use Rattle.resolve_call.proofs.There.{text-there, text_resolved}
use Rattle.resolve_call.proofs.resolve_long.Goals.{In-Some-settle, In_ok-tally}
use Rattle.resolve_call.proofs.resolve_long.Goals as goal

pub take_text-requires : goal.take_text-requires
take_text-requires c =
    let p = c.requires in
    (p.0, p.1, p.2, p.3)

pub returns-in_err-tally : goal.returns-in_err-tally
unfolding TakenAs resolved_as
returns-in_err-tally c =
    let p = err_from_is_err_and c.from_residual.result c.from_residual.ensures.1 in
    rw (p.1, p.2) (refused_answers _ _ _ (rw (c.in-Some.is ∙ ap prelude.Some c.in_err-tally.was) at c.take_text.ensures) refl)

-- there is room for all LETs
pub returns-in_default : goal.returns-in_default
unfolding TakenAs
returns-in_default c =
    let full = c.in_default.ensures in
    absurd (omega (arith, full, c.filled-lets.ensures))

-- what was taken
unfoldable there :
    (t : In_ok-tally)
    → let a = t.args in
    StaysWritten (handed_context a.block.now a.lists.now) t.in_ok-tally.tally
    t.take_text.new.dropped t.take_text.new.terms
    t.take_text.new.out
unfolding TakenAs
there t =
    let h = rw (t.in-Some.is ∙ ap prelude.Some t.in_ok-tally.was) at t.take_text.ensures in
    text-there h refl (omega (arith, t.filled-bench.ensures))

-- the text resolves to what that comes to
resolved_to :
    (t : In_ok-tally)
    → let a = t.args in
    resolve_handed a.limit a.block.now a.lists.now a.text.now
    ≡ merge_and_ground (handed_context a.block.now a.lists.now) (there t).there.what
unfolding there TakenAs
resolved_to t =
    let h = rw (t.in-Some.is ∙ ap prelude.Some t.in_ok-tally.was) at t.take_text.ensures in
    text_resolved h refl (omega (arith, t.filled-bench.ensures))

-- what is made is as long as it was
room :
    (t : In_ok-tally)
    → length t.take_text.new.out ≡ length t.filled-made.result
unfolding TakenAs
room t =
    same-room (rw (t.in-Some.is ∙ ap prelude.Some t.in_ok-tally.was) at t.take_text.ensures).text

pub read_layout-requires : goal.read_layout-requires
unfolding TakenAs
read_layout-requires c =
    let a = c.args in
    let h = rw (c.in-Some.is ∙ ap prelude.Some c.in_ok-tally.was) at c.take_text.ensures in
    handed-heads_fit a.block.now a.lists.now h.handed

pub settle-requires : goal.settle-requires
unfolding TakenAs
settle-requires c =
    let h = rw (c.in-Some.is ∙ ap prelude.Some c.in_ok-tally.was) at c.take_text.ensures in (
      c.requires.1,
      c.requires.2,
      record { is = h.handed; there = c.read_layout.ensures },
      there (goal.at.settle-requires c).In_ok-tally,
    )

-- the answer, from the bench
answered :
    (x : In-Some-settle)
    → let a = x.args in
    Answers (merge_and_ground (handed_context a.block.now a.lists.now) (there (goal.at.In-Some-settle x).In_ok-tally).there.what) a.ground.now a.room a.notes.now
    x.settle.new.ground x.settle.new.notes
    x.settle.new.bench x.in-Some-settle.resolved
unfolding AttemptAs
answered x =
    subst (AttemptAs _ _ _ _ _ _ _) x.in-Some-settle.is (x.settle.ensures.0 (there (goal.at.In-Some-settle x).In_ok-tally))

-- the effects stand on the bench, and there is room for as many in the working buffer
pub put_first-requires : goal.put_first-requires
put_first-requires c =
    let a = c.args in
    let result = c.in-Some-settle.resolved in (
      omega (
        arith,
        c.effect_count.ensures,
        told-few result (handed_context a.block.now a.lists.now) (there (goal.at.put_first-requires c).In_ok-tally).there.what (answered (goal.at.put_first-requires c).In-Some-settle),
        c.requires.4,
      ),
      omega (arith, c.effect_count.ensures, told-stand result (answered (goal.at.put_first-requires c).In-Some-settle)),
    )

pub returns : goal.returns
returns c =
    let result = c.in-Some-settle.resolved in
    answers-put result (same_answers result (resolved_to (goal.at.returns c).In_ok-tally) (answered (goal.at.returns c).In-Some-settle)) c.args.work.now c.effect_count.ensures
    c.put_first.ensures

-- there is room for every ground text
pub returns-in_default-settle : goal.returns-in_default-settle
unfolding Roomy
returns-in_default-settle c =
    let small = c.in_default-settle.ensures.1 in
    absurd (omega (arith, small, room (goal.at.returns-in_default-settle c).In_ok-tally, c.filled-made.ensures))
