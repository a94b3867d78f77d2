-- `read_text::count_under` meets its contract: what is not admitted, then a byte that starts no token, then the statements. Assumes nothing.
use Rattle.std.specs.Prelude.{Err}
use Rattle.std.proofs.Common.{rules}
use mathlib.Core.Path.{◌≡◌, refl, ◌∙◌, ap, sym, subst}
use Rattle.tokens.specs.Class.{class_of, class_table}
use Rattle.labels.specs.Label.{labels_of, keywords}
use Rattle.labels.specs.Table.{label_table, keyword_table}
use Rattle.read_forms.specs.Admission.{AdmissionAs}
use Rattle.read_forms.specs.Faults.{answered, same}
use Rattle.reading.specs.Calls.{counted}
use Rattle.read_text.proofs.Texts.{counted-text}
use Rattle.reading_laws.proofs.Calls.{counted-refused}
use Rattle.read_text.proofs.count_under.Goals as goal

pub returns-in_err-admit : goal.returns-in_err-admit
returns-in_err-admit c =
    let a = c.args in
    let told : c.from_residual.result ≡ Err c.in_err-admit.field-0.0 = search rules in
    rw told (sym (ap (counted 0) (subst (AdmissionAs a.limit a.text.now) c.in_err-admit.was c.admit.ensures)))

pub count_from-requires : goal.count_from-requires
unfolding class_table class_of label_table labels_of keyword_table keywords
count_from-requires c = (refl, refl, refl)

pub earliest-requires : goal.earliest-requires
unfolding class_table class_of
earliest-requires c = refl

pub returns-in-Ok : goal.returns-in-Ok
returns-in-Ok c =
    let a = c.args in
    let fine = subst (AdmissionAs a.limit a.text.now) c.in_ok-admit.was c.admit.ensures in
    let e = ap (answered same) c.in-Ok.is in
    sym e
    ∙ c.count_from.ensures
    ∙ ap (counted 0) (sym (counted-text a.limit a.text.now fine c.in-Ok.n (sym c.count_from.ensures ∙ e)))

pub returns-in-Err : goal.returns-in-Err
returns-in-Err c =
    let a = c.args in
    let fine = subst (AdmissionAs a.limit a.text.now) c.in_ok-admit.was c.admit.ensures in
    let e = counted-refused 0 _ _ _ (sym c.count_from.ensures ∙ ap (answered same) c.in-Err.is) in
    sym (ap (counted 0) (c.earliest.ensures a.limit fine e))
