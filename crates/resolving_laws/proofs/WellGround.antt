-- What statements bring can be read again where it is written, where the statements and the context can be read.
-- Assumes nothing.
use Prim.Native.Nat.{ℕ, ◌≤◌}
use native.Mathlib.Omega.{arith}
use mathlib.Core.Path.{◌≡◌, refl}
use mathlib.Core.Bool.{Bool, true, false, cond, ◌||◌, false≢true}
use mathlib.Core.List.{List, [], ◌∷◌}
use mathlib.Core.Option.{some, none, map}
use lib.Dec.{ltb}
use lib.ListN.{length}
use borrow.Author.Tests.{ltb-false}
use Rattle.text.proofs.Tests.{and_left, and_right, both}
use Rattle.text.specs.Bytes.{bytes}
use Rattle.tokens.specs.Spelling.{is_name}
use Rattle.text.specs.Lists.{all, any, gather, is_nil}
use Rattle.labels.specs.declared.Family.TheVariants.{
  AbsorptionMode,
  EliminationMode,
  PeripheralKind,
  DepotMode,
  LagtimeMode,
  CovariateEffect,
  PdMode,
  ProductionMode,
  MetaboliteMode,
  VariabilityEffect,
  VariabilityLevel,
}
use Rattle.reading.specs.Statement.{
  Modes,
  estimated,
  counted,
  Operand,
  Operator,
  Feature,
  Absorption,
  Elimination,
  Peripherals,
  Transits,
  Lagtime,
  Covariate,
  Allometry,
  DirectEffect,
  EffectComp,
  IndirectEffect,
  Metabolite,
  Iiv,
  Iov,
  Covariance,
  Statement,
  Let,
  feature,
}
use Rattle.reading.specs.Answer.{Answer, accepted, refused, ◌>>=◌}
use Rattle.reading.specs.Parts.{feature_parts}
use Rattle.reading_laws.specs.WellFormed.{is_place, well_modes, well_operand, well_part, well_together, well_parts, well_feature, well_formed, Gives, given, nothing}
use Rattle.text.proofs.Passing.{Passing, all_passing}
use Rattle.reading_laws.proofs.Giving.{gives_bind}
use Rattle.resolving.specs.Context.{Context, covariates, kind_at}
use Rattle.resolving.specs.Symbols.{Meaning}
use Rattle.resolving.specs.Effects.{Effect, optional_number, operator_number, form_effects, effects_of, against}
use Rattle.resolving.specs.Brought.{
  Brought,
  defining,
  dropped,
  stays,
  brings,
  is_explicit,
  whole,
  plain_name,
  listed,
  drop_if,
  bring_feature,
  bring,
  each_from,
}
use Rattle.text.proofs.All.{All, all_of, all_weaker, all-gather, all_map}
use Rattle.resolving_laws.proofs.Passed.{each_gives}
use Rattle.resolving_laws.proofs.Entries.{Entries, entry_first, parameters_give, covariates_give}
use Rattle.resolving_laws.proofs.WellParts.{entry_named, forms_well, listed_well, maybe-whole, whole_well, true_all}

-- A context as far as the ground text goes: each name is one word or one number, and parameters and covariates are at most 64.
pub record Readable (c : Context) : Type 0 where
  pub parameters-named : all is_name c.parameters ≡ true
  pub covariates-named : all is_name (covariates c) ≡ true
  pub parameters-few : length c.parameters ≤ 64
  pub covariates-few : length (covariates c) ≤ 64

passing_all : {A : Type 0} (p : A → Bool) (xs : List A) → Passing p xs → all p xs ≡ true
passing_all p [] h = refl
passing_all p (x ∷ xs) h = both h.0 (passing_all p xs h.1)

-- What is brought can be read again where it is written.
pub data Wells (limit : ℕ) : Brought → Type 0 where
  wells_defining : Wells limit defining
  wells_dropped : Wells limit dropped
  wells_itself : {f : Feature} → well_feature limit f ≡ true → Wells limit (stays f)
  wells_effects : {x : Bool} {es : List Effect} → All (λ e. is_place CovariateEffect e.form ≡ true) es → Wells limit (brings x es)

not-few : (is : List ℕ) → ltb (length is) 2 ≡ false → is_nil is ≡ false
not-few [] e = absurd (omega (arith, ltb-false 0 2 e))
not-few (i ∷ is) e = refl

module _ (limit : ℕ) (c : Context) (good : Readable c) (look : Meaning) where
  -- a feature of a list of parameters
  list_well :
      (small : List ℕ → Bool) (make : Operand → Feature) {is : List ℕ}
      → Entries c.parameters is
      → (small is ≡ false → is_nil is ≡ false)
      → ((o : Operand) → well_operand o ≡ true → well_feature limit (make o) ≡ true)
      → Wells limit (drop_if (small is) (stays (make (listed c.parameters is))))
  list_well small make {is} h n f = by_cases (small is) refl
    where
      by_cases : (t : Bool) → small is ≡ t → Wells limit (drop_if t (stays (make (listed c.parameters is))))
      by_cases true e = wells_dropped
      by_cases false e =
          wells_itself
          (f (listed c.parameters is)
          (listed_well c.parameters good.parameters-few h (n e)
          (all_weaker (λ i k. entry_named c.parameters good.parameters-named i k) h.first)))

  covariate_well :
      (m x : Bool) (es : Modes) (op : Operator) (is vs : List ℕ) (s t : Bool)
      → well_modes CovariateEffect es ≡ true
      → Gives (Wells limit) (cond s (accepted dropped) (cond t (refused 16 0) (accepted (brings x (effects_of c m es op is vs)))))
  covariate_well m x es op is vs true t e = given wells_dropped
  covariate_well m x es op is vs false true e = nothing refl
  covariate_well m x es op is vs false false e =
      given
      (wells_effects
      (all-gather
      (λ p. gather (λ v. form_effects c m es op p v) vs)
      (λ p h.
      all-gather
      (λ v. form_effects c m es op p v)
      (λ v k.
      all_map
      (λ f. record { parameter = p; covariate = v; form = f; operator = operator_number op; optional = optional_number m })
      (λ f q. q)
      (forms_well es (kind_at c v) e))
      (all_of {P = λ v. v ≡ v} (λ v. refl) vs))
      (all_of {P = λ p. p ≡ p} (λ p. refl) is)))

  -- a feature of well formed parts
  parts_well : (f : Feature) → Passing (well_part limit) (feature_parts f).arguments → well_together f ≡ true → Gives (Wells limit) (accepted (stays f))
  parts_well f h t = given (wells_itself (both (passing_all (well_part limit) (feature_parts f).arguments h) t))

  of_parts : (f : Feature) → Passing (well_part limit) (feature_parts f).arguments → well_together f ≡ true → Gives (Wells limit) (bring_feature c look f)
  unfolding feature_parts
  of_parts (Absorption ms) p t = parts_well (Absorption (whole AbsorptionMode ms)) (whole_well AbsorptionMode ms p.0, tt) refl
  of_parts (Elimination ms) p t = parts_well (Elimination (whole EliminationMode ms)) (whole_well EliminationMode ms p.0, tt) refl
  of_parts (Peripherals n ms) p t =
      parts_well (Peripherals n (map (whole PeripheralKind) ms)) (p.0, (maybe-whole limit PeripheralKind ms p.1.0, tt)) refl
  of_parts (Transits estimated none) p t = parts_well (Transits estimated none) (refl, (refl, tt)) refl
  of_parts (Transits estimated (some ms)) p t = absurd (false≢true t)
  of_parts (Transits (counted n) ms) p t =
      parts_well (Transits (counted n) (map (whole DepotMode) ms)) (p.0, (maybe-whole limit DepotMode ms p.1.0, tt)) refl
  of_parts (Lagtime ms) p t = parts_well (Lagtime (whole LagtimeMode ms)) (whole_well LagtimeMode ms p.0, tt) refl
  of_parts (Covariate m ps cs es op) p t =
      gives_bind (parameters_give c look (bytes "PK") ps)
      (λ is h.
      gives_bind (covariates_give c look cs)
      (λ vs k. covariate_well m (is_explicit ps) es op is vs (is_nil is || is_nil vs) (any (against c es) vs) p.1.1.0))
  of_parts (Allometry n none) p t =
      gives_bind (entry_first (covariates c) n.spelling) (λ i h. parts_well (Allometry (plain_name n.spelling) none) (p.0, (refl, tt)) t)
  of_parts (Allometry n (some r)) p t =
      gives_bind (entry_first (covariates c) n.spelling)
      (λ i h. parts_well (Allometry (plain_name n.spelling) (some (plain_name r.spelling))) (p.0, (p.1.0, tt)) t)
  of_parts (DirectEffect ms) p t = parts_well (DirectEffect (whole PdMode ms)) (whole_well PdMode ms p.0, tt) refl
  of_parts (EffectComp ms) p t = parts_well (EffectComp (whole PdMode ms)) (whole_well PdMode ms p.0, tt) refl
  of_parts (IndirectEffect ms ps) p t =
      parts_well (IndirectEffect (whole PdMode ms) (whole ProductionMode ps))
      (whole_well PdMode ms p.0, (whole_well ProductionMode ps p.1.0, tt))
      refl
  of_parts (Metabolite ms) p t = parts_well (Metabolite (whole MetaboliteMode ms)) (whole_well MetaboliteMode ms p.0, tt) refl
  of_parts (Iiv m ps es) p t =
      gives_bind (parameters_give c look (bytes "PK") ps)
      (λ is h. given (list_well is_nil (λ o. Iiv m o (whole VariabilityEffect es)) h (λ n. n) (λ o w. simp (w, whole_well VariabilityEffect es p.1.0))))
  of_parts (Iov m ps es) p t =
      gives_bind (parameters_give c look (bytes "IIV") ps)
      (λ is h. given (list_well is_nil (λ o. Iov m o (whole VariabilityEffect es)) h (λ n. n) (λ o w. simp (w, whole_well VariabilityEffect es p.1.0))))
  of_parts (Covariance m ls ps) p t =
      gives_bind (parameters_give c look (bytes "IIV") ps)
      (λ is h.
      given
      (list_well (λ js. ltb (length js) 2) (λ o. Covariance m (whole VariabilityLevel ls) o) h (not-few is)
      (λ o w. simp (w, whole_well VariabilityLevel ls p.0))))

  feature_well : (f : Feature) → well_feature limit f ≡ true → Gives (Wells limit) (bring_feature c look f)
  feature_well f e =
      of_parts f
      (all_passing (well_part limit) (feature_parts f).arguments (and_left (well_parts limit (feature_parts f)) (well_together f) e))
      (and_right (well_parts limit (feature_parts f)) (well_together f) e)

  statement_well : (s : Statement) → well_formed limit s ≡ true → Gives (Wells limit) (bring c look s)
  unfolding bring
  statement_well (Let n is) e = given wells_defining
  statement_well (feature f) e = feature_well f e

  pub all_well : (i : ℕ) (ss : List Statement) → all (well_formed limit) ss ≡ true → Gives (All (Wells limit)) (each_from (bring c look) i ss)
  all_well i ss e = each_gives (bring c look) i (all_weaker statement_well (true_all (well_formed limit) ss e))
