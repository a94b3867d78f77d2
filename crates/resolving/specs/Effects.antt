-- Document 01, The calls offered: "An effect is five numbers: parameter and covariate, each the index of its name's first entry in its list
-- .., form by its place in the family, operator (0 `*`, 1 `+`), optional (0 or 1)."
use Rattle.std.specs.Prelude.{ℕ, Bool, true, false, not, ◌||◌, List, [], ◌∷◌, map, eqb}
use Rattle.std.proofs.Math.Option.{Option, some, none}
use Rattle.reading.specs.Statement.{Modes, all_modes, modes, Operator, multiply, add}
use Rattle.text.specs.Lists.{any, gather}
use Rattle.resolving.specs.Context.{Context, CovariateKind, continuous, categorical, kind_at}

pub record Effect : Type 0 where
  pub parameter : ℕ
  pub covariate : ℕ
  pub form : ℕ
  pub operator : ℕ
  pub optional : ℕ

abbrev pub operator_number : Operator → ℕ
operator_number multiply = 0
operator_number add = 1

abbrev pub optional_number : Bool → ℕ
optional_number true = 1
optional_number false = 0

-- Forms, by their places in the family (labels, `CovariateEffect`): lin, piece_lin, exp and pow; cat; cat2.
abbrev pub continuous_forms : List ℕ
continuous_forms = 0 ∷ 1 ∷ 2 ∷ 3 ∷ []

abbrev pub cat : ℕ
cat = 4

abbrev pub cat2 : ℕ
cat2 = 5

-- "Effect `*` is Cat for a categorical covariate, else the four of `CONTINUOUS`."
abbrev pub every_form : Option CovariateKind → List ℕ
every_form none = continuous_forms
every_form (some continuous) = continuous_forms
every_form (some categorical) = cat ∷ []

abbrev pub forms_of : Modes → Option CovariateKind → List ℕ
forms_of all_modes k = every_form k
forms_of (modes fs) k = fs

-- "Cat and Cat2 suit categorical, the other forms continuous, and without a block all suit."
abbrev pub is_cat : ℕ → Bool
is_cat f = eqb f cat || eqb f cat2

abbrev pub suits : Option CovariateKind → ℕ → Bool
suits none f = true
suits (some continuous) f = not (is_cat f)
suits (some categorical) f = is_cat f

-- "A covariate's kind is that of its first declared entry": the covariate is the index of that entry.
abbrev pub against : Context → Modes → ℕ → Bool
against c es v = any (λ f. not (suits (kind_at c v) f)) (forms_of es (kind_at c v))

-- "A statement's effects come by parameter, then covariate, then form, each in its list's own order."
module _ (c : Context) (m : Bool) (es : Modes) (op : Operator) where
  abbrev pub form_effects : ℕ → ℕ → List Effect
  form_effects p v =
      map
      (λ f. record { parameter = p; covariate = v; form = f; operator = operator_number op; optional = optional_number m })
      (forms_of es (kind_at c v))

  abbrev pub effects_of : List ℕ → List ℕ → List Effect
  effects_of ps vs = gather (λ p. gather (λ v. form_effects p v) vs) ps
