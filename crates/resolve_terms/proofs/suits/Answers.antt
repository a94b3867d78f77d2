-- `resolve_terms::suits` meets its contract.
-- Assumes nothing.
use mathlib.Core.Path.{◌∙◌, ap, sym}
use Rattle.resolving.specs.Effects.{suits}
use Rattle.resolve_terms.specs.Terms.{kind_in}
use Rattle.resolve_terms.proofs.suits.Goals as goal

pub returns-in-None : goal.returns-in-None
returns-in-None c = sym (ap (λ k. suits (kind_in k) c.args.form) c.in-None.is)

pub returns-in-Some : goal.returns-in-Some
returns-in-Some c =
    c.suits.ensures ∙ sym (ap (λ x. suits (kind_in x) c.args.form) c.in-Some.is)
