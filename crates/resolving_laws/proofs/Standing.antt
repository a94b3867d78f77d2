-- What a statement brings can be written again, and a statement that stays brings itself.
-- Assumes nothing.
use Prim.Native.Nat.{ℕ}
use mathlib.Core.Path.{◌≡◌, refl, ◌∙◌, ap, ap₂}
use mathlib.Core.Bool.{Bool, true, false, cond, not, ◌||◌}
use mathlib.Core.List.{List}
use mathlib.Core.Option.{Option, some, none, map}
use lib.Dec.{ltb}
use lib.ListN.{length}
use borrow.Author.Tests.{not-false}
use Rattle.text.specs.Bytes.{bytes}
use Rattle.labels.specs.declared.Family.{Family}
use Rattle.labels.specs.declared.Family.TheVariants.{
  AbsorptionMode,
  EliminationMode,
  PeripheralKind,
  DepotMode,
  LagtimeMode,
  PdMode,
  ProductionMode,
  MetaboliteMode,
  VariabilityEffect,
  VariabilityLevel,
}
use Rattle.reading.specs.Statement.{
  Name,
  Modes,
  all_modes,
  modes,
  Operator,
  Feature,
  Absorption,
  Elimination,
  Peripherals,
  Transits,
  Lagtime,
  Covariate,
  Allometry,
  DirectEffect,
  EffectComp,
  IndirectEffect,
  Metabolite,
  Iiv,
  Iov,
  Covariance,
  Statement,
  Let,
  feature,
}
use Rattle.reading.specs.Answer.{Answer, accepted, refused, ◌>>=◌}
use Rattle.reading_laws.specs.WellFormed.{Gives, given, nothing}
use Rattle.reading_laws.proofs.Giving.{gives_bind, fault_given}
use Rattle.text.specs.Lists.{any, gather, is_nil}
use Rattle.resolving.specs.Context.{Context, covariates, kind_at}
use Rattle.resolving.specs.Symbols.{Meaning}
use Rattle.resolving.specs.Operands.{entry_of, held}
use Rattle.resolving.specs.Effects.{forms_of, suits, optional_number, operator_number, form_effects, effects_of, against}
use Rattle.resolving.specs.Brought.{dropped, stays, brings, is_explicit, whole, plain_name, listed, drop_if, bring_feature, bring, each_from}
use Rattle.text.proofs.All.{All, all_both, all-gather, all_map, none-all, all_of}
use Rattle.resolving_laws.proofs.Passed.{each_gives}
use Rattle.resolving_laws.proofs.EffectLaws.{mark_back, operator_back}
use Rattle.resolving_laws.proofs.Entries.{FirstAt, Entries, entry_first, held-again, parameters_give, covariates_give, spelled_out}
use Rattle.resolving.specs.Ground.{group_of}
use Rattle.resolving_laws.proofs.Stands.{Written, Suited, Stands, stands-dropped, stands-effects, stands_itself, stands-defining}

whole_twice : (f : Family) (ms : Modes) → whole f (whole f ms) ≡ whole f ms
unfolding whole
whole_twice f all_modes = refl
whole_twice f (modes ms) = refl

some_whole : (f : Family) (o : Option Modes) → map (whole f) (map (whole f) o) ≡ map (whole f) o
some_whole f none = refl
some_whole f (some ms) = ap some (whole_twice f ms)

module _ (c : Context) where
  -- a feature of a list of parameters, which is dropped where they are too few
  listed-stands :
      (small : List ℕ → Bool) (make : List ℕ → Feature) {is : List ℕ}
      → Entries c.parameters is
      → ((look : Meaning)
      → bring_feature c look (make is)
      ≡ (held c.parameters (accepted (spelled_out c.parameters is)) >>= λ js. accepted (drop_if (small js) (stays (make js)))))
      → Stands c (drop_if (small is) (stays (make is)))
  listed-stands small make {is} h step = by_cases (small is) refl
    where
      by_cases : (t : Bool) → small is ≡ t → Stands c (drop_if t (stays (make is)))
      by_cases true e = stands-dropped
      by_cases false e =
          stands_itself
          (λ look.
          step look
          ∙ ap
          (λ (a : Answer (List ℕ)). a >>= λ js. accepted (drop_if (small js) (stays (make js))))
          (held-again c.parameters h)
          ∙ ap (λ (t : Bool). accepted (drop_if t (stays (make is)))) e)

  effects-stand :
      (m : Bool) (es : Modes) (op : Operator) {is vs : List ℕ}
      → All (FirstAt c.parameters) is
      → All (λ v. FirstAt (covariates c) v × (against c es v ≡ false)) vs
      → All (λ e. Written c (group_of e) × Suited c e × (e.operator ≡ operator_number op)) (effects_of c m es op is vs)
  effects-stand m es op {is} {vs} hs ks =
      all-gather
      (λ p. gather (λ v. form_effects c m es op p v) vs)
      (λ p h.
      all-gather
      (λ v. form_effects c m es op p v)
      (λ v k.
      all_map
      (λ f. record { parameter = p; covariate = v; form = f; operator = operator_number op; optional = optional_number m })
      (λ f s. (
        record {
          parameter-first = h;
          covariate-first = k.0;
          operator-known = ap operator_number (operator_back op);
          mark-known = ap optional_number (mark_back m);
        },
        not-false (suits (kind_at c v) f) s,
        refl,
      ))
      (none-all (λ f. not (suits (kind_at c v) f)) (forms_of es (kind_at c v)) k.1))
      ks)
      hs

  allometry_stands : (n : Name) (r : Option Name) (look : Meaning) → Gives (Stands c) (bring_feature c look (Allometry n r))
  allometry_stands n r look = by_cases (entry_of (covariates c) n.spelling) refl
    where
      twice : (o : Option Name)
          → map (λ x. plain_name x.spelling) (map (λ x. plain_name x.spelling) o) ≡ map (λ x. plain_name x.spelling) o
      twice none = refl
      twice (some x) = refl

      by_cases :
          (a : Answer ℕ)
          → entry_of (covariates c) n.spelling ≡ a
          → Gives (Stands c) (a >>= λ i. accepted (stays (Allometry (plain_name n.spelling) (map (λ x. plain_name x.spelling) r))))
      by_cases (accepted i) e =
          given
          (stands_itself
          (λ look.
          ap₂
          (λ (a : Answer ℕ) (o : Option Name). a >>= λ i. accepted (stays (Allometry (plain_name n.spelling) o)))
          e
          (twice r)))
      by_cases (refused k p) e = nothing (fault_given (entry_first (covariates c) n.spelling) e)

  stay : (f : Feature) → ((look : Meaning) → bring_feature c look f ≡ accepted (stays f)) → Gives (Stands c) (accepted (stays f))
  stay f h = given (stands_itself h)

  covariate-stands :
      (m x : Bool) (es : Modes) (op : Operator) {is vs : List ℕ}
      → Entries c.parameters is
      → Entries (covariates c) vs
      → (s t : Bool)
      → any (against c es) vs ≡ t
      → Gives (Stands c) (cond s (accepted dropped) (cond t (refused 16 0) (accepted (brings x (effects_of c m es op is vs)))))
  covariate-stands m x es op h k true t e = given stands-dropped
  covariate-stands m x es op h k false true e = nothing refl
  covariate-stands m x es op {is} {vs} h k false false e =
      given (stands-effects (operator_number op) (effects-stand m es op h.first (all_both k.first (none-all (against c es) vs e))))

  pub feature-stands : (look : Meaning) (f : Feature) → Gives (Stands c) (bring_feature c look f)
  feature-stands look (Absorption ms) = stay (Absorption (whole AbsorptionMode ms)) (λ l. simp whole_twice)
  feature-stands look (Elimination ms) = stay (Elimination (whole EliminationMode ms)) (λ l. simp whole_twice)
  feature-stands look (Peripherals n ms) = stay (Peripherals n (map (whole PeripheralKind) ms)) (λ l. simp some_whole)
  feature-stands look (Transits n ms) = stay (Transits n (map (whole DepotMode) ms)) (λ l. simp some_whole)
  feature-stands look (Lagtime ms) = stay (Lagtime (whole LagtimeMode ms)) (λ l. simp whole_twice)
  feature-stands look (Covariate m ps cs es op) =
      gives_bind (parameters_give c look (bytes "PK") ps)
      (λ is h.
      gives_bind (covariates_give c look cs)
      (λ vs k. covariate-stands m (is_explicit ps) es op h k (is_nil is || is_nil vs) (any (against c es) vs) refl))
  feature-stands look (Allometry n r) = allometry_stands n r look
  feature-stands look (DirectEffect ms) = stay (DirectEffect (whole PdMode ms)) (λ l. simp whole_twice)
  feature-stands look (EffectComp ms) = stay (EffectComp (whole PdMode ms)) (λ l. simp whole_twice)
  feature-stands look (IndirectEffect ms ps) = stay (IndirectEffect (whole PdMode ms) (whole ProductionMode ps)) (λ l. simp whole_twice)
  feature-stands look (Metabolite ms) = stay (Metabolite (whole MetaboliteMode ms)) (λ l. simp whole_twice)
  feature-stands look (Iiv m ps es) =
      gives_bind (parameters_give c look (bytes "PK") ps)
      (λ is h. given (listed-stands is_nil (λ js. Iiv m (listed c.parameters js) (whole VariabilityEffect es)) h (λ l. simp whole_twice)))
  feature-stands look (Iov m ps es) =
      gives_bind (parameters_give c look (bytes "IIV") ps)
      (λ is h. given (listed-stands is_nil (λ js. Iov m (listed c.parameters js) (whole VariabilityEffect es)) h (λ l. simp whole_twice)))
  feature-stands look (Covariance m ls ps) =
      gives_bind (parameters_give c look (bytes "IIV") ps)
      (λ is h.
      given
      (listed-stands
      (λ js. ltb (length js) 2)
      (λ js. Covariance m (whole VariabilityLevel ls) (listed c.parameters js))
      h
      (λ l. simp whole_twice)))

  pub statement-stands : (look : Meaning) (s : Statement) → Gives (Stands c) (bring c look s)
  unfolding bring
  statement-stands look (Let n is) = given stands-defining
  statement-stands look (feature f) = feature-stands look f

  pub all-stand : (look : Meaning) (i : ℕ) (ss : List Statement) → Gives (All (Stands c)) (each_from (bring c look) i ss)
  all-stand look i ss = each_gives (bring c look) i (all_of (statement-stands look) ss)
