-- Document 01, The context: "parameters, IIV parameters, template bindings (each a role pair, then a variable pair), declared covariates
-- (each with a kind, 0 continuous or 1 categorical), data columns". Names are bytes.
use Rattle.std.specs.Prelude.{ℕ, List, map}
use Rattle.std.proofs.Math.Option.{Option, some, none}
use Rattle.std.proofs.Math.ListN.{get_elem?}

pub record Binding : Type 0 where
  pub role : List ℕ
  pub variable : List ℕ

pub data CovariateKind : Type 0 where
  continuous categorical : CovariateKind

abbrev pub kind_number : CovariateKind → ℕ
kind_number continuous = 0
kind_number categorical = 1

pub record Declared : Type 0 where
  pub name : List ℕ
  pub kind : CovariateKind

-- "Two marks say if there is a template and if there is a declaration block": without the mark there is none.
pub record Context : Type 0 where
  pub parameters : List (List ℕ)
  pub iiv : List (List ℕ)
  pub template : Option (List Binding)
  pub block : Option (List Declared)
  pub columns : List (List ℕ)

-- The list that covariates are held to and that effects index: "declared covariates, or data columns without a block".
abbrev pub covariates_or : Option (List Declared) → List (List ℕ) → List (List ℕ)
covariates_or none cs = cs
covariates_or (some ds) cs = map (λ d. d.name) ds

abbrev pub covariates : Context → List (List ℕ)
covariates c = covariates_or c.block c.columns

-- The kind of the covariate at an index, where there is a block.
abbrev pub kind_or : Option (List Declared) → ℕ → Option CovariateKind
kind_or none i = none
kind_or (some ds) i = get_elem? (map (λ d. d.kind) ds) i

abbrev pub kind_at : Context → ℕ → Option CovariateKind
kind_at c i = kind_or c.block i
