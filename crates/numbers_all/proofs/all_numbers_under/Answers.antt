-- `numbers_all::all_numbers_under` meets its contract: a text that is not admitted is refused, and by the buffer's length the numbers are measured or
-- not. Assumes nothing.
use Rattle.std.specs.Prelude.{Err}
use Rattle.std.proofs.Common.{rules}
use mathlib.Core.Path.{◌≡◌, refl, subst}
use native.Mathlib.Omega.{arith}
use Rattle.tokens.specs.Class.{class_of, class_table}
use Rattle.labels.specs.Label.{labels_of, keywords}
use Rattle.labels.specs.Table.{label_table, keyword_table}
use Rattle.reading_laws.specs.Admitted.{Admitted}
use Rattle.read_forms.specs.Admission.{AdmissionAs}
use Rattle.numbers_all.proofs.Answering.{refused_answers}
use Rattle.numbers_all.proofs.all_numbers_under.Goals.{In_ok-admit}
use Rattle.numbers_all.proofs.all_numbers_under.Goals as goal

pub returns-in_err-admit : goal.returns-in_err-admit
returns-in_err-admit c =
    let a = c.args in
    let told : c.from_residual.result ≡ Err c.in_err-admit.field-0.0 = search rules in
    rw told
    (refused_answers a.limit a.text.now a.out.now c.in_err-admit.field-0.0
    (subst (AdmissionAs a.limit a.text.now) c.in_err-admit.was c.admit.ensures))

-- the text and its ceiling are admitted
fine :
    (c : In_ok-admit)
    → let a = c.args in
    Admitted a.limit a.text.now
fine c = subst (AdmissionAs _ _) c.in_ok-admit.was c.admit.ensures

pub overflow_mul-size : goal.overflow_mul-size
overflow_mul-size c = omega (arith, (fine (goal.at.overflow_mul-size c).In_ok-admit).short)

pub put_read-requires : goal.put_read-requires
unfolding class_table class_of label_table labels_of keyword_table keywords
put_read-requires c =
    (refl, refl, refl, fine (goal.at.put_read-requires c).In_ok-admit, c.if-size-out.true)

pub put_short-requires : goal.put_short-requires
unfolding class_table class_of label_table labels_of keyword_table keywords
put_short-requires c = (refl, refl, refl, fine (goal.at.put_short-requires c).In_ok-admit)
