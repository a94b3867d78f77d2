-- The numbers of a COVARIATE's terms mean its effects.
-- Assumes nothing.
use Prim.Native.Nat.{ℕ, ◌+◌, ◌*◌, ◌/◌, ◌%◌, ◌<◌, ◌≤◌}
use native.Mathlib.Omega.{arith}
use mathlib.Core.Path.{◌≡◌, refl, ◌∙◌, ap, ap₂, sym}
use mathlib.Core.Bool.{Bool, true, false}
use mathlib.Core.List.{List, [], ◌∷◌, ◌++◌, map, map-append}
use mathlib.Core.Option.{Option, some, none}
use borrow.Author.Tests.{ltb-true}
use lib.Dec.{eqb, ltb}
use lib.ListN.{length, length-map, length-append}
use Rattle.text.specs.Bytes.{every}
use Rattle.text.proofs.Tests.{and_left, and_right}
use Rattle.reading.specs.Statement.{Modes, all_modes, modes, Operator, multiply, add}
use Rattle.text.specs.Lists.{gather}
use Rattle.resolving.specs.Context.{Context, CovariateKind, continuous, categorical, kind_at}
use Rattle.resolving.specs.Effects.{Effect, operator_number, optional_number, forms_of, form_effects, effects_of}
use Rattle.resolving_laws.specs.Flat.{Term, term}
use Rattle.resolve_merging.specs.Packing.{term_of}
use Rattle.resolve_features.specs.Terms.{SmallForms}
use Rattle.resolve_terms.specs.Terms.{head_number, form_terms, covariate_terms, parameter_terms}

abbrev effect : ℕ → ℕ → ℕ → ℕ → ℕ → Effect
effect p v f o m = record { parameter = p; covariate = v; form = f; operator = o; optional = m }

-- one term
module _ (i x o m p v f : ℕ) (hi : i < 256) (hx : x < 2) (ho : o < 2) (hm : m < 2) (hp : p < 64) (hv : v < 64) (hf : f < 8) where
  abbrev number : ℕ
  number = i * 262144 + x * 131072 + o * 2 + m + 2048 * p + 32 * v + 4 * f

  index_is : number / 262144 ≡ i
  index_is = omega arith

  mark-is : number / 131072 % 2 ≡ x
  mark-is = omega arith

  parameter-is : number / 2048 % 64 ≡ p
  parameter-is = omega arith

  covariate-is : number / 32 % 64 ≡ v
  covariate-is = omega arith

  form-is : number / 4 % 8 ≡ f
  form-is = omega arith

  operator-is : number / 2 % 2 ≡ o
  operator-is = omega arith

  optional-is : number % 2 ≡ m
  optional-is = omega arith

  term_is : term_of number ≡ term i (eqb x 1) (effect p v f o m)
  term_is = rw (index_is, mark-is, parameter-is, covariate-is, form-is, operator-is, optional-is) refl

-- numbers below a bound
abbrev pub Below : ℕ → List ℕ → Type 0
Below n is = every (λ i. ltb i n) is ≡ true

below-first : (n i : ℕ) (is : List ℕ) → Below n (i ∷ is) → i < n
below-first n i is h = ltb-true i n (and_left (ltb i n) (every (λ j. ltb j n) is) h)

below_rest : (n i : ℕ) (is : List ℕ) → Below n (i ∷ is) → Below n is
below_rest n i is h = and_right (ltb i n) (every (λ j. ltb j n) is) h

mark : (x : Bool) → optional_number x < 2
mark true = omega arith
mark false = omega arith

mark_back : (x : Bool) → eqb (optional_number x) 1 ≡ x
mark_back true = refl
mark_back false = refl

sign : (op : Operator) → operator_number op < 2
sign multiply = omega arith
sign add = omega arith

-- the forms of a pair
every-small : (es : Modes) (k : Option CovariateKind) → SmallForms es → Below 8 (forms_of es k)
every-small all_modes none h = refl
every-small all_modes (some continuous) h = refl
every-small all_modes (some categorical) h = refl
every-small (modes fs) k h = h

module _ (c : Context) (i : ℕ) (hi : i < 256) (x m : Bool) (es : Modes) (op : Operator) (small : SmallForms es) where
  abbrev head : ℕ
  head = head_number i x op m

  forms-mean :
      (p v : ℕ) (hp : p < 64) (hv : v < 64) (fs : List ℕ)
      → Below 8 fs
      → map term_of (form_terms (head + 2048 * p + 32 * v) fs)
      ≡ map (term i x) (map (λ f. effect p v f (operator_number op) (optional_number m)) fs)
  forms-mean p v hp hv [] h = refl
  forms-mean p v hp hv (f ∷ fs) h =
      ap₂ (λ (t : Term) (ts : List Term). t ∷ ts)
      (term_is i (optional_number x) (operator_number op) (optional_number m) p v f hi (mark x) (sign op) (mark m) hp hv (below-first 8 f fs h)
      ∙ ap (λ (t : Bool). term i t (effect p v f (operator_number op) (optional_number m))) (mark_back x))
      (forms-mean p v hp hv fs (below_rest 8 f fs h))

  covariates-mean :
      (p : ℕ) (hp : p < 64) (vs : List ℕ)
      → Below 64 vs
      → map term_of (covariate_terms c es (head + 2048 * p) vs) ≡ map (term i x) (gather (λ v. form_effects c m es op p v) vs)
  covariates-mean p hp [] h = refl
  covariates-mean p hp (v ∷ vs) h =
      map-append term_of (form_terms (head + 2048 * p + 32 * v) (forms_of es (kind_at c v))) (covariate_terms c es (head + 2048 * p) vs)
      ∙ ap₂ (λ (ts us : List Term). ts ++ us)
      (forms-mean p v hp (below-first 64 v vs h) (forms_of es (kind_at c v)) (every-small es (kind_at c v) small))
      (covariates-mean p hp vs (below_rest 64 v vs h))
      ∙ sym (map-append (term i x) (form_effects c m es op p v) (gather (λ u. form_effects c m es op p u) vs))

  pub terms-mean :
      (ps vs : List ℕ)
      → Below 64 ps
      → Below 64 vs
      → map term_of (parameter_terms c es (head_number i x op m) ps vs) ≡ map (term i x) (effects_of c m es op ps vs)
  terms-mean [] vs hp hv = refl
  terms-mean (p ∷ ps) vs hp hv =
      map-append term_of (covariate_terms c es (head + 2048 * p) vs) (parameter_terms c es head ps vs)
      ∙ ap₂ (λ (ts us : List Term). ts ++ us) (covariates-mean p (below-first 64 p ps hp) vs hv) (terms-mean ps vs (below_rest 64 p ps hp) hv)
      ∙ sym (map-append (term i x) (gather (λ v. form_effects c m es op p v) vs) (effects_of c m es op ps vs))

-- How many there are.
module _ (c : Context) (es : Modes) (few : (k : Option CovariateKind) → length (forms_of es k) ≤ 8) where
  covariates-few : (h : ℕ) (vs : List ℕ) → length (covariate_terms c es h vs) ≤ 8 * length vs
  covariates-few h [] = omega arith
  covariates-few h (v ∷ vs) =
      omega (
        arith,
        few (kind_at c v),
        covariates-few h vs,
        length-map (forms_of es (kind_at c v)) (λ f. h + 32 * v + 4 * f),
        length-append (form_terms (h + 32 * v) (forms_of es (kind_at c v))) (covariate_terms c es h vs),
      )

  pub terms-few : (h : ℕ) (ps vs : List ℕ) → length vs ≤ 64 → length (parameter_terms c es h ps vs) ≤ 512 * length ps
  terms-few h [] vs hv = omega arith
  terms-few h (p ∷ ps) vs hv =
      omega (
        arith,
        covariates-few (h + 2048 * p) vs,
        terms-few h ps vs hv,
        length-append (covariate_terms c es (h + 2048 * p) vs) (parameter_terms c es h ps vs),
      )
