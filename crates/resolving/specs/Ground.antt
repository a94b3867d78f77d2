-- Document 01, Resolving: "The effects are then grouped by pair, operator and optional mark in order of first occurrence, within a group too,
-- after all other ground features."
use Rattle.std.specs.Prelude.{ℕ, Bool, cond, not, ◌&&◌, List, [], ◌∷◌, ◌++◌, map, eqb}
use Rattle.reading.specs.Statement.{modes, Operator, multiply, add, Covariate, Statement, feature}
use Rattle.text.specs.Lists.{keep, firsts, gather}
use Rattle.resolving.specs.Context.{Context, covariates}
use Rattle.resolving.specs.Effects.{Effect}
use Rattle.resolving.specs.Brought.{Brought, defining, dropped, stays, brings, listed}

-- "pair, operator and optional mark" (001, `CovariateGroupKey`)
pub record Group : Type 0 where
  pub parameter : ℕ
  pub covariate : ℕ
  pub operator : ℕ
  pub optional : ℕ

abbrev pub group_of : Effect → Group
group_of e = record { parameter = e.parameter; covariate = e.covariate; operator = e.operator; optional = e.optional }

abbrev pub same_group : Group → Group → Bool
same_group g h =
    (eqb g.parameter h.parameter && eqb g.covariate h.covariate)
    && (eqb g.operator h.operator && eqb g.optional h.optional)

-- the groups, and the forms in one, in order of first occurrence
abbrev pub groups : List Effect → List Group
groups es = firsts same_group (map group_of es)

abbrev pub forms_in : List Effect → Group → List ℕ
forms_in es g = map (λ e. e.form) (keep (λ e. same_group g (group_of e)) es)

-- A group's ground statement, its names from the lists that effects index.
abbrev pub operator_as : ℕ → Operator
operator_as n = cond (eqb n 0) multiply add

abbrev pub is_optional : ℕ → Bool
is_optional n = not (eqb n 0)

abbrev pub ground_covariate : Context → Group → List ℕ → Statement
ground_covariate c g fs =
    feature
    (Covariate
    (is_optional g.optional)
    (listed c.parameters (g.parameter ∷ []))
    (listed (covariates c) (g.covariate ∷ []))
    (modes fs)
    (operator_as g.operator))

abbrev pub ground_effects : Context → List Effect → List Statement
ground_effects c es = map (λ g. ground_covariate c g (forms_in es g)) (groups es)

-- All ground statements: what stays, and then the groups.
abbrev pub staying : Brought → List Statement
staying defining = []
staying dropped = []
staying (stays f) = feature f ∷ []
staying (brings x es) = []

unfoldable pub ground : Context → List Brought → List Effect → List Statement
ground c bs es = gather staying bs ++ ground_effects c es
