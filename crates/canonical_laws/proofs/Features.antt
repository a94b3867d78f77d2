-- Each of the fourteen features is read again from its printed arguments.
-- Assumes nothing.
use Prim.Native.Nat.{ℕ}
use mathlib.Core.Path.{◌≡◌, refl}
use mathlib.Core.Bool.{Bool, true, false, false≢true}
use mathlib.Core.List.{List, [], ◌∷◌}
use mathlib.Core.Option.{some, none}
use Rattle.text.specs.Bytes.{bytes}
use Rattle.tokens.specs.Class.{class_of}
use Rattle.tokens.specs.Token.{Shape}
use Rattle.text.proofs.Tests.{and_left, and_right}
use Rattle.labels.specs.declared.Family.TheVariants.{
  AbsorptionMode,
  EliminationMode,
  PeripheralKind,
  DepotMode,
  LagtimeMode,
  CovariateEffect,
  PdMode,
  ProductionMode,
  MetaboliteMode,
  VariabilityEffect,
  VariabilityLevel,
}
use Rattle.labels.specs.Word.{same_word, find}
use Rattle.labels.specs.Label.{keywords}
use Rattle.reading.specs.Statement.{
  a_word,
  a_number,
  Modes,
  all_modes,
  modes,
  estimated,
  counted,
  multiply,
  add,
  Feature,
  Absorption,
  Elimination,
  Peripherals,
  Transits,
  Lagtime,
  Covariate,
  Allometry,
  DirectEffect,
  EffectComp,
  IndirectEffect,
  Metabolite,
  Iiv,
  Iov,
  Covariance,
}
use Rattle.reading.specs.Parts.{feature_parts}
use Rattle.reading.specs.Answer.{accepted}
use Rattle.reading.specs.Argument.{Arg, single, plus}
use Rattle.reading.specs.Feature.{keyword_of, transits_of, explicit, operator_of, feature_of, build_feature}
use Rattle.reading.specs.Syntax.{name, item_as}
use Rattle.reading_laws.specs.Moved.{move_feature}
use Rattle.reading_laws.specs.WellFormed.{spelled_as, well_part, well_parts, well_effects, well_together, well_feature}
use Rattle.text.proofs.Passing.{Passing, all_passing}
use Rattle.canonical.specs.Canonical.{word_of, parts_shapes, keyword_at}
use Rattle.canonical_laws.specs.Forgotten.{nowhere}
use Rattle.canonical_laws.specs.Printed.{word_entry, starts_feature, Again, lastly, before, PrintedCall}
use Rattle.canonical_laws.proofs.Arguments.{plus-printed, single-printed}
use Rattle.canonical_laws.proofs.Modes.{modes-again}
use Rattle.canonical_laws.proofs.Counts.{counts-again}
use Rattle.canonical_laws.proofs.Names.{operand_again, name-again}

module _ {limit : ℕ} {k : List ℕ} {m : Bool} {f : Feature} where
  -- a call of one argument, and of two
  one_again :
      {xs : List Shape} {P : Arg → Type 0}
      → starts_feature k ≡ true
      → Again limit xs P
      → ((a : Arg) → P a → build_feature limit (name 0 k) m (a ∷ []) ≡ accepted f)
      → PrintedCall limit k m (xs ∷ []) f
  one_again s a h = record { starts = s; arguments = a.arg ∷ []; printed = lastly a.printed; means = h a.arg a.fact }

  two-again :
      {xs ys : List Shape} {P Q : Arg → Type 0}
      → starts_feature k ≡ true
      → Again limit xs P
      → Again limit ys Q
      → ((a b : Arg) → P a → Q b → build_feature limit (name 0 k) m (a ∷ b ∷ []) ≡ accepted f)
      → PrintedCall limit k m (xs ∷ ys ∷ []) f
  two-again s a b h =
      record {
        starts = s;
        arguments = a.arg ∷ b.arg ∷ [];
        printed = before a.printed (lastly b.printed);
        means = h a.arg b.arg a.fact b.fact;
      }

-- the N of TRANSITS
n-again : {limit : ℕ} → Again limit (word_of "N" ∷ []) (λ a. a ≡ single (item_as a_word 0 (bytes "N")))
unfolding class_of
n-again = record { arg = single (item_as a_word 0 (bytes "N")); printed = single-printed (word_entry refl); fact = refl }

-- the effects of a COVARIATE, which are `*` only after a `?`
effects-stand : (m : Bool) (es : Modes) (a : Arg) → well_effects m es ≡ true → explicit m a es ≡ accepted es
unfolding explicit
effects-stand true es a e = refl
effects-stand false all_modes a e = absurd (false≢true e)
effects-stand false (modes ms) a e = refl

-- well formed parts that stand together are printed so that they are read again as the feature
parts_again :
    (limit : ℕ) (f : Feature)
    → Passing (well_part limit) (feature_parts f).arguments
    → well_together f ≡ true
    → PrintedCall limit (keyword_at (feature_parts f).keyword) (feature_parts f).optional (parts_shapes (feature_parts f).arguments)
    (move_feature nowhere f)
unfolding build_feature keyword_of find same_word keywords feature_of feature_parts transits_of class_of operator_of
parts_again limit (Absorption ms) w e = one_again refl (modes-again limit AbsorptionMode ms w.0) λ a h. simp h
parts_again limit (Elimination ms) w e = one_again refl (modes-again limit EliminationMode ms w.0) λ a h. simp h
parts_again limit (Peripherals c none) w e = one_again refl (counts-again limit c w.0) λ a h. simp h.1
parts_again limit (Peripherals c (some ms)) w e =
    two-again refl (counts-again limit c w.0) (modes-again limit PeripheralKind ms w.1.0) λ a b h g. simp (h.1, g)
parts_again limit (Transits estimated none) w e = one_again refl n-again λ a h. simp h
parts_again limit (Transits estimated (some ms)) w e = absurd (false≢true e)
parts_again limit (Transits (counted c) none) w e = one_again refl (counts-again limit c w.0) λ a h. simp (h.0, h.1)
parts_again limit (Transits (counted c) (some ms)) w e =
    two-again refl (counts-again limit c w.0) (modes-again limit DepotMode ms w.1.0) λ a b h g. simp (h.0, h.1, g)
parts_again limit (Lagtime ms) w e = one_again refl (modes-again limit LagtimeMode ms w.0) λ a h. simp h
parts_again limit (Covariate m ps cs es multiply) w e =
    let a = operand_again limit ps w.0 in
    let b = operand_again limit cs w.1.0 in
    let c = modes-again limit CovariateEffect es w.1.1.0 in
    record {
      starts = refl;
      arguments = a.arg ∷ b.arg ∷ c.arg ∷ [];
      printed = before a.printed (before b.printed (lastly c.printed));
      means = simp (a.fact, b.fact, c.fact, effects-stand m es c.arg e);
    }
parts_again limit (Covariate m ps cs es add) w e =
    let a = operand_again limit ps w.0 in
    let b = operand_again limit cs w.1.0 in
    let c = modes-again limit CovariateEffect es w.1.1.0 in
    record {
      starts = refl;
      arguments = a.arg ∷ b.arg ∷ c.arg ∷ plus 0 ∷ [];
      printed = before a.printed (before b.printed (before c.printed (lastly plus-printed)));
      means = simp (a.fact, b.fact, c.fact, effects-stand m es c.arg e);
    }
parts_again limit (Allometry n none) w e =
    one_again refl (name-again limit a_word n (and_left (spelled_as a_word n) true e)) λ a h. simp h
parts_again limit (Allometry n (some r)) w e =
    two-again refl (name-again limit a_word n (and_left (spelled_as a_word n) (spelled_as a_number r) e))
    (name-again limit a_number r (and_right (spelled_as a_word n) (spelled_as a_number r) e)) λ a b h g. simp (h, g)
parts_again limit (DirectEffect ms) w e = one_again refl (modes-again limit PdMode ms w.0) λ a h. simp h
parts_again limit (EffectComp ms) w e = one_again refl (modes-again limit PdMode ms w.0) λ a h. simp h
parts_again limit (IndirectEffect ms ps) w e =
    two-again refl (modes-again limit PdMode ms w.0) (modes-again limit ProductionMode ps w.1.0) λ a b h g. simp (h, g)
parts_again limit (Metabolite ms) w e = one_again refl (modes-again limit MetaboliteMode ms w.0) λ a h. simp h
parts_again limit (Iiv m ps es) w e =
    two-again refl (operand_again limit ps w.0) (modes-again limit VariabilityEffect es w.1.0) λ a b h g. simp (h, g)
parts_again limit (Iov m ps es) w e =
    two-again refl (operand_again limit ps w.0) (modes-again limit VariabilityEffect es w.1.0) λ a b h g. simp (h, g)
parts_again limit (Covariance m ls ps) w e =
    two-again refl (modes-again limit VariabilityLevel ls w.0) (operand_again limit ps w.1.0) λ a b h g. simp (h, g)

-- A well formed feature is printed so that it is read again as itself.
pub feature-again :
    (limit : ℕ) (f : Feature)
    → well_feature limit f ≡ true
    → PrintedCall limit (keyword_at (feature_parts f).keyword) (feature_parts f).optional (parts_shapes (feature_parts f).arguments)
    (move_feature nowhere f)
feature-again limit f e =
    let p = feature_parts f in
    parts_again limit f (all_passing (well_part limit) p.arguments (and_left (well_parts limit p) (well_together f) e))
    (and_right (well_parts limit p) (well_together f) e)
