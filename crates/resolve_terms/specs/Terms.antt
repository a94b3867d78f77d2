-- The effects of a COVARIATE as numbers: what a number means is said in `merging` (Packing).
use Rattle.std.specs.Prelude.{ℕ, ◌+◌, ◌*◌, Bool, List, map}
use Rattle.std.proofs.Math.Option.{Option, some, none}
use Rattle.reading.specs.Statement.{Modes, Operator}
use Rattle.text.specs.Lists.{gather}
use Rattle.resolving.specs.Context.{Context, CovariateKind, kind_at}
use Rattle.resolving.specs.Effects.{forms_of, operator_number, optional_number}
use Rattle.resolve_context.specs.Kinds.{kind_as}
use Rattle.resolve_context.specs.declared.Kind.{Kind}
use Rattle.std.specs.Prelude as prelude

abbrev pub kind_in : prelude.Option Kind → Option CovariateKind
kind_in prelude.None = none
kind_in (prelude.Some k) = some (kind_as k)

-- what all effects of a statement have in common
abbrev pub head_number : ℕ → Bool → Operator → Bool → ℕ
head_number s x op m = s * 262144 + optional_number x * 131072 + operator_number op * 2 + optional_number m

-- the terms of a pair, of a parameter with covariates, and of all parameters
abbrev pub form_terms : ℕ → List ℕ → List ℕ
form_terms head fs = map (λ f. head + 4 * f) fs

module _ (c : Context) (es : Modes) where
  abbrev pub covariate_terms : ℕ → List ℕ → List ℕ
  covariate_terms head vs = gather (λ v. form_terms (head + 32 * v) (forms_of es (kind_at c v))) vs

  abbrev pub parameter_terms : ℕ → List ℕ → List ℕ → List ℕ
  parameter_terms head ps vs = gather (λ p. covariate_terms (head + 2048 * p) vs) ps
