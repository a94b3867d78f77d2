-- `resolve_call::resolve_in` meets its contract: a text that has no answer in the way for few statements has left the outputs as they were. Assumes
-- nothing.
use Rattle.std.specs.Prelude.{Err}
use mathlib.Core.Path.{◌≡◌, refl, subst}
use Prim.Native.Nat.{◌≤◌}
use native.Mathlib.Omega.{arith}
use lib.ListN.{length}
use borrow.Author.Rules.{rules}
use Rattle.tokens.specs.Class.{class_of, class_table}
use Rattle.labels.specs.Label.{labels_of, keywords}
use Rattle.labels.specs.Table.{label_table, keyword_table}
use Rattle.reading_laws.specs.Admitted.{Admitted}
use Rattle.read_forms.specs.Admission.{AdmissionAs}
use Rattle.resolve_settling.specs.Answers.{resolved_as}
use Rattle.resolve_settling.specs.Attempts.{AttemptAs}
use Rattle.resolve_settling.proofs.Answering.{refused_answers, answers_back}
use Rattle.resolve_taking.proofs.Refusing.{text-refused}
use Rattle.resolve_call.proofs.resolve_in.Goals.{In_ok-admit, In-None}
use Rattle.resolve_call.proofs.resolve_in.Goals as goal

pub returns-in_err-admit : goal.returns-in_err-admit
unfolding resolved_as
returns-in_err-admit c =
    let told : c.from_residual.result ≡ Err c.in_err-admit.field-0.0 = search rules in
    rw told (refused_answers _ _ _ (text-refused _ _ _ _ (subst (AdmissionAs _ _) c.in_err-admit.was c.admit.ensures)) refl)

-- the text and its ceiling are admitted
fine :
    (c : In_ok-admit)
    → let a = c.args in
    Admitted a.limit a.text.now
fine c = subst (AdmissionAs _ _) c.in_ok-admit.was c.admit.ensures

-- a text that is not short
pub resolve_long-requires : goal.resolve_long-requires
unfolding class_table class_of label_table labels_of keyword_table keywords
resolve_long-requires c =
    (refl, refl, refl, fine (goal.at.resolve_long-requires c).In_ok-admit, omega (arith, c.requires))

pub returns-then-text-gt-SHORT : goal.returns-then-text-gt-SHORT
returns-then-text-gt-SHORT c = c.resolve_long.ensures

-- a short text is answered
pub resolve_short-requires : goal.resolve_short-requires
unfolding class_table class_of label_table labels_of keyword_table keywords
resolve_short-requires c =
    (refl, refl, refl, fine (goal.at.resolve_short-requires c).In_ok-admit, c.requires)

pub returns-in-Some : goal.returns-in-Some
unfolding AttemptAs
returns-in-Some c = subst (AttemptAs _ _ _ _ _ _ _) c.in-Some.is c.resolve_short.ensures

unchanged : (o : In-None)
    → (o.resolve_short.new.ground ≡ o.args.ground.now) × (o.resolve_short.new.notes ≡ o.args.notes.now)
unfolding AttemptAs
unchanged o = subst (AttemptAs _ _ _ _ _ _ _) o.in-None.is o.resolve_short.ensures

-- and the working buffer is as long, which is enough for the effects
work_long : (o : In-None) → 2048 ≤ length o.resolve_short.new.work
work_long o =
    let e : length o.resolve_short.new.work ≡ length o.args.work.now = search rules in
    omega (arith, e, o.requires)

pub resolve_long-requires-in-None : goal.resolve_long-requires-in-None
unfolding class_table class_of label_table labels_of keyword_table keywords
resolve_long-requires-in-None c = (refl, refl, refl, fine (goal.at.resolve_long-requires-in-None c).In_ok-admit, work_long (goal.at.resolve_long-requires-in-None c).In-None)

pub returns-in-None : goal.returns-in-None
returns-in-None c =
    let u = unchanged (goal.at.returns-in-None c).In-None in
    answers_back c.resolve_long-in-None.result u.0 u.1 c.resolve_long-in-None.ensures
