-- `read_text::statement_under` meets its contract: what is not admitted, then a byte that starts no token, then the statements, and 20 only behind
-- them. Assumes nothing.
use Rattle.std.specs.Prelude.{Ok, Err}
use Rattle.std.proofs.Common.{rules}
use mathlib.Core.Path.{◌≡◌, refl, ◌∙◌, ap, sym, subst}
use Rattle.tokens.specs.Class.{class_of, class_table}
use Rattle.labels.specs.Label.{labels_of, keywords}
use Rattle.labels.specs.Table.{label_table, keyword_table}
use Rattle.read_forms.specs.Admission.{AdmissionAs}
use Rattle.read_forms.specs.Forms.{some_in, statement_in}
use Rattle.read_forms.specs.Faults.{answered}
use Rattle.reading.specs.Calls.{nth_of}
use Rattle.read_text.proofs.Texts.{indexed-text}
use Rattle.read_text.proofs.Indexes.{indexed-refused, chosen_told}
use Rattle.read_text.proofs.statement_under.Goals as goal

pub returns-in_err-admit : goal.returns-in_err-admit
returns-in_err-admit c =
    let a = c.args in
    let told : c.from_residual.result ≡ Err c.in_err-admit.field-0.0 = search rules in
    rw told (sym (ap (nth_of a.index) (subst (AdmissionAs a.limit a.text.now) c.in_err-admit.was c.admit.ensures)))

pub nth-requires : goal.nth-requires
unfolding class_table class_of label_table labels_of keyword_table keywords
nth-requires c = (refl, refl, refl)

pub earliest-requires : goal.earliest-requires
unfolding class_table class_of
earliest-requires c = refl

pub returns-in-Ok : goal.returns-in-Ok
returns-in-Ok c =
    let a = c.args in
    let s = a.text.now in
    let fine = subst (AdmissionAs a.limit s) c.in_ok-admit.was c.admit.ensures in
    rw c.ok_or.ensures.value
    (chosen_told s a.index c.in-Ok.kept
    ∙ sym (indexed-text a.limit s fine a.index _ (sym c.nth.ensures ∙ ap (answered (some_in (statement_in s))) c.in-Ok.is)))

pub returns-in-Err : goal.returns-in-Err
returns-in-Err c =
    let a = c.args in
    let s = a.text.now in
    let fine = subst (AdmissionAs a.limit s) c.in_ok-admit.was c.admit.ensures in
    let e = indexed-refused a.index _ _ _ (sym c.nth.ensures ∙ ap (answered (some_in (statement_in s))) c.in-Err.is) in
    sym (ap (nth_of a.index) (c.earliest.ensures a.limit fine e))
