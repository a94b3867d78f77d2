-- What the loop keeps.
use lib.ListN.{drop}
use Rattle.read_forms.specs.Forms.{modes_in}
use Rattle.resolving.specs.Handed.{handed_context}
use Rattle.print_writing.proofs.Going.{Going}
use Rattle.resolve_terms.specs.Terms.{parameter_terms}
use Rattle.resolve_terms.proofs.put_terms.Given as goal

abbrev pub invariant-loop-parameter : goal.invariant-loop-parameter
invariant-loop-parameter l =
    Going l.initial.terms l.at (parameter_terms (handed_context l.block l.lists) (modes_in l.effects) l.head l.parameters l.covariates) l.terms l.next
    (parameter_terms (handed_context l.block l.lists) (modes_in l.effects) l.head (drop l.parameter-index l.parameters) l.covariates)
