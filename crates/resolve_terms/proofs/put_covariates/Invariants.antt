-- What the loop keeps.
use lib.ListN.{drop}
use Rattle.read_forms.specs.Forms.{modes_in}
use Rattle.resolving.specs.Handed.{handed_context}
use Rattle.print_writing.proofs.Going.{Going}
use Rattle.resolve_terms.specs.Terms.{covariate_terms}
use Rattle.resolve_terms.proofs.put_covariates.Given as goal

abbrev pub invariant-loop-covariate : goal.invariant-loop-covariate
invariant-loop-covariate l =
    Going l.initial.terms l.at (covariate_terms (handed_context l.block l.lists) (modes_in l.effects) l.head l.covariates) l.terms l.next
    (covariate_terms (handed_context l.block l.lists) (modes_in l.effects) l.head (drop l.covariate-index l.covariates))
