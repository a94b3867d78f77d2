-- A kind of covariate, as code has it.
use Rattle.resolving.specs.Context.{CovariateKind, continuous, categorical}
use Rattle.resolve_context.specs.declared.Kind.{Kind}
use Rattle.resolve_context.specs.declared.Kind.TheVariants.{Continuous, Categorical}

abbrev pub kind_as : Kind → CovariateKind
kind_as Continuous = continuous
kind_as Categorical = categorical
