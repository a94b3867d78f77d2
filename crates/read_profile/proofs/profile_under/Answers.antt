-- `read_profile::profile_under` meets its contract: what is not admitted, and then what is said of a text that is. Assumes nothing.
use Rattle.std.specs.Prelude.{Err}
use Rattle.std.proofs.Common.{rules}
use mathlib.Core.Path.{◌≡◌, refl, subst}
use Rattle.tokens.specs.Class.{class_of, class_table}
use Rattle.labels.specs.Label.{labels_of, keywords}
use Rattle.labels.specs.Table.{label_table, keyword_table}
use Rattle.read_forms.specs.Admission.{AdmissionAs}
use Rattle.read_profile.specs.Answers.{profiled_as}
use Rattle.read_profile.proofs.Answering.{refused_so}
use Rattle.read_profile.proofs.profile_under.Goals as goal

pub returns-in_err-admit : goal.returns-in_err-admit
unfolding profiled_as
returns-in_err-admit c =
    let a = c.args in
    let told : c.from_residual.result ≡ Err c.in_err-admit.field-0.0 = search rules in
    rw told (refused_so a.limit a.text.now _ _ (subst (AdmissionAs _ _) c.in_err-admit.was c.admit.ensures))

pub profile_admitted-requires : goal.profile_admitted-requires
unfolding class_table class_of label_table labels_of keyword_table keywords
profile_admitted-requires c =
    (refl, refl, refl, subst (AdmissionAs _ _) c.in_ok-admit.was c.admit.ensures)
