-- What is known of a statement that was read, feature by feature.
-- Assumes nothing.
use Prim.Native.Nat.{ℕ, ◌<◌}
use native.Mathlib.Omega.{arith}
use mathlib.Core.Path.{◌≡◌, refl}
use mathlib.Core.Bool.{Bool, true, false}
use mathlib.Core.List.{List, [], ◌∷◌}
use denote.Enum.Declared.{tag_of}
use types.Run.{OneOf, miss}
use borrow.Author.Tests.{lt-ltb, ltb-true}
use lib.Dec.{ltb, leb}
use lib.ListN.{length}
use Rattle.text.specs.Bytes.{every}
use Rattle.text.specs.Lists.{all}
use Rattle.text.proofs.Tests.{and_left, and_right}
use Rattle.labels.specs.declared.Family.TheVariants.{CovariateEffect}
use Rattle.labels.specs.Label.{labels_of}
use Rattle.reading.specs.Statement as statement
use Rattle.reading.specs.Statement.{Modes, all_modes, modes, Operand, Operator}
use Rattle.reading.specs.Parts.{parts_of, feature_parts, operand_part}
use Rattle.reading_laws.specs.WellFormed.{is_place, none_twice, one_to64, well_modes, well_part, well_formed}
use Rattle.reading_laws.proofs.Parts.{parts_well, few_labels}
use Rattle.read_forms.specs.declared.Modes as formModes
use Rattle.read_forms.specs.declared.Operand as formOperand
use Rattle.read_forms.specs.declared.CovariateOp as formOp
use Rattle.read_forms.specs.declared.Feature as forms
use Rattle.read_forms.specs.declared.Feature.TheVariants as form
use Rattle.read_forms.specs.declared.Statement.TheVariants as statementForm
use Rattle.read_forms.specs.Forms.{modes_in, op_as, operand_in, feature_in, statement_in}
use Rattle.read_forms.specs.contracts.Feature.{the_type}
use Rattle.read_parts.specs.Apart.{apart, feature_apart}
use Rattle.read_parts.specs.Meaning.{OperandFits, PartsFit}
use Rattle.read_parts.proofs.Fitting.{statement-fits}
use Rattle.resolve_features.specs.Stays.{is_covariate, Short}
use Rattle.resolve_features.specs.Terms.{SmallForms}
use Rattle.read_space.specs.Fit.{Fit}

-- the places of a family are below 8
all_small : (fs : List ℕ) → all (is_place CovariateEffect) fs ≡ true → every (λ f. ltb f 8) fs ≡ true
all_small [] e = refl
all_small (f ∷ fs) e =
    let h : f < 8 = omega (arith, ltb-true f (length (labels_of CovariateEffect)) (and_left (is_place CovariateEffect f) _ e), few_labels CovariateEffect) in
    rw (lt-ltb f 8 h) (all_small fs (and_right (is_place CovariateEffect f) _ e))

well_small : (ms : Modes) → well_modes CovariateEffect ms ≡ true → SmallForms ms
well_small all_modes e = tt
well_small (modes []) e = refl
well_small (modes (f ∷ fs)) e =
    all_small (f ∷ fs)
    (and_right (leb (length (f ∷ fs)) 64) _ (and_left (one_to64 (is_place CovariateEffect) (f ∷ fs)) (none_twice (f ∷ fs)) e))

module _ (limit : ℕ) (m : Bool) (ps vs : Operand) (es : Modes) (op : Operator) where
  small-forms : well_formed limit (statement.feature (statement.Covariate m ps vs es op)) ≡ true → SmallForms es
  unfolding parts_of feature_parts
  small-forms e =
      let p = parts_well limit (statement.feature (statement.Covariate m ps vs es op)) e in
      well_small es
      (and_left (well_modes CovariateEffect es) _
      (and_right (well_part limit (operand_part vs)) _ (and_right (well_part limit (operand_part ps)) _ p)))

pub record CovariateFits (s : List ℕ) (ps vs : formOperand.Operand) (es : formModes.Modes) : Type 0 where
  pub parameters : OperandFits s ps
  pub covariates : OperandFits s vs
  pub small : SmallForms (modes_in es)

module _ (s : List ℕ) where
  pub covariate-fits : (m : Bool) (ps vs : formOperand.Operand) (es : formModes.Modes) (op : formOp.CovariateOp)
      → Fit s (statementForm.Feature (form.Covariate m ps vs es op))
      → CovariateFits s ps vs es
  unfolding statement_in feature_in apart feature_apart
  covariate-fits m ps vs es op f =
      let q = statement-fits f.limit s (statementForm.Feature (form.Covariate m ps vs es op)) f.read in
      record {
        parameters = q.first;
        covariates = q.second;
        small = small-forms f.limit m (operand_in s ps) (operand_in s vs) (modes_in es) (op_as op) (and_left _ _ f.read);
      }

  pub feature-fits : (f : forms.Feature) → Fit s (statementForm.Feature f) → PartsFit s (apart (statementForm.Feature f))
  feature-fits f x = statement-fits x.limit s (statementForm.Feature f) x.read

  pub feature-short : (f : forms.Feature) → Fit s (statementForm.Feature f) → Short s f
  unfolding statement_in
  feature-short f x = x.short

-- what is no COVARIATE
pub not-covariate : (f : forms.Feature)
    → OneOf (0 ∷ 1 ∷ 2 ∷ 3 ∷ 4 ∷ 6 ∷ 7 ∷ 8 ∷ 9 ∷ 10 ∷ 11 ∷ 12 ∷ 13 ∷ []) (tag_of the_type f)
    → is_covariate f ≡ false
not-covariate (form.Absorption m) k = refl
not-covariate (form.Elimination m) k = refl
not-covariate (form.Peripherals c o) k = refl
not-covariate (form.Transits c d) k = refl
not-covariate (form.Lagtime m) k = refl
not-covariate (form.Covariate o p c e op) k = absurd (miss (0 ∷ 1 ∷ 2 ∷ 3 ∷ 4 ∷ 6 ∷ 7 ∷ 8 ∷ 9 ∷ 10 ∷ 11 ∷ 12 ∷ 13 ∷ []) 5 tt k)
not-covariate (form.Allometry n r) k = refl
not-covariate (form.DirectEffect m) k = refl
not-covariate (form.EffectComp m) k = refl
not-covariate (form.IndirectEffect m p) k = refl
not-covariate (form.Metabolite m) k = refl
not-covariate (form.Iiv o p e) k = refl
not-covariate (form.Iov o p e) k = refl
not-covariate (form.Covariance o l p) k = refl
