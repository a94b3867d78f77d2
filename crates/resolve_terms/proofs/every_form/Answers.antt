-- `resolve_terms::every_form` meets its contract.
-- Assumes nothing.
use mathlib.Core.Path.{◌∙◌, ap, sym}
use Rattle.resolving.specs.Effects.{every_form}
use Rattle.resolve_terms.specs.Terms.{kind_in}
use Rattle.resolve_terms.proofs.every_form.Goals as goal

pub returns-in-None : goal.returns-in-None
returns-in-None c = c.every_form.ensures ∙ sym (ap (λ k. every_form (kind_in k)) c.in-None.is)

pub returns-in-Some : goal.returns-in-Some
returns-in-Some c = c.every_form-in-Some.ensures ∙ sym (ap (λ k. every_form (kind_in k)) c.in-Some.is)
