-- What the loop keeps.
use mathlib.Core.Path.{◌≡◌}
use lib.ListN.{drop}
use Rattle.read_forms.specs.Forms.{modes_in}
use Rattle.text.specs.Lists.{any}
use Rattle.resolving.specs.Effects.{against}
use Rattle.resolving.specs.Handed.{handed_context}
use Rattle.resolve_terms.proofs.any_against.Given as goal

abbrev pub invariant-loop-covariate : goal.invariant-loop-covariate
invariant-loop-covariate l =
    (any (against (handed_context l.block l.lists) (modes_in l.effects)) l.covariates
    ≡ any (against (handed_context l.block l.lists) (modes_in l.effects)) (drop l.covariate-index l.covariates))
