-- `resolve_terms::forms_of` meets its contract.
-- Assumes nothing.
use mathlib.Core.Path.{◌∙◌, ap, sym}
use Rattle.read_forms.specs.Forms.{modes_in}
use Rattle.resolving.specs.Effects.{forms_of}
use Rattle.resolve_terms.specs.Terms.{kind_in}
use Rattle.resolve_terms.proofs.forms_of.Goals as goal

pub returns-in-Wildcard : goal.returns-in-Wildcard
unfolding modes_in
returns-in-Wildcard c =
    let a = c.args in
    c.every_form.ensures ∙ sym (ap (λ m. forms_of (modes_in m) (kind_in a.kind)) c.in-Wildcard.is)

pub returns-in-List : goal.returns-in-List
unfolding modes_in
returns-in-List c =
    let a = c.args in
    sym (ap (λ m. forms_of (modes_in m) (kind_in a.kind)) c.in-List.is)
