-- `resolve_terms::any_against` meets its contract: of the covariates before those that are left none has a form against its kind.
-- Assumes nothing.
use mathlib.Core.Path.{◌≡◌, refl, ◌∙◌, sym}
use native.Mathlib.Omega.{arith}
use lib.ListN.{get_or}
use Rattle.read_forms.specs.Forms.{modes_in}
use Rattle.resolving.specs.Effects.{against}
use Rattle.resolving.specs.Handed.{handed_context}
use Rattle.resolve_terms.proofs.Steps.{any_here, any-later, any_none}
use Rattle.resolve_terms.proofs.any_against.Goals.{After-has_against}
use Rattle.resolve_terms.proofs.any_against.Goals as goal

pub kind_of-kind-requires : goal.kind_of-kind-requires
kind_of-kind-requires c =
    (c.requires.0, c.requires.1.below c.loop-covariate.covariate-index c.loop-covariate-test.true)

-- what is asked of the covariate at the index
asked : (c : After-has_against) →
    c.has_against.result
    ≡ against (handed_context c.args.block.now c.args.lists.now) (modes_in c.args.effects) (get_or c.args.covariates.now c.loop-covariate.covariate-index 0)
asked c = c.has_against.ensures ∙ rw (c.forms_of.ensures, c.kind_of-kind.ensures) refl

pub returns-then-has_against : goal.returns-then-has_against
returns-then-has_against c =
    sym
    (c.loop-covariate.invariant
    ∙ any_here _ c.args.covariates.now c.loop-covariate.covariate-index c.loop-covariate-test.true (sym (asked (goal.at.returns-then-has_against c).After-has_against) ∙ c.if-has_against.true))

pub loop-covariate-preserved : goal.loop-covariate-preserved
loop-covariate-preserved c =
    c.loop-covariate.invariant
    ∙ any-later _ c.args.covariates.now c.loop-covariate.covariate-index c.loop-covariate-test.true (sym (asked (goal.at.loop-covariate-preserved c).After-has_against) ∙ c.if-has_against.false)

pub returns : goal.returns
returns c =
    sym
    (c.loop-covariate.invariant ∙ any_none _ c.args.covariates.now c.loop-covariate.covariate-index (omega (arith, c.loop-covariate-test.false)))
