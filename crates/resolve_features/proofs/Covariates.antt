-- What a COVARIATE brings by what its operands answered; and that its terms are few and mean its effects.
-- Assumes nothing.
use Prim.Native.Nat.{ℕ, suc, ◌≤◌, ◌<◌}
use native.Mathlib.Omega.{arith}
use mathlib.Core.Path.{◌≡◌, refl, ◌∙◌, ap, sym}
use mathlib.Core.Bool.{Bool, true, false, cond}
use mathlib.Core.List.{List, [], ◌∷◌, map}
use mathlib.Core.Option.{Option, some, none}
use borrow.Author.Tests.{lt-ltb}
use lib.ListN.{length, get_or}
use Rattle.text.specs.Bytes.{bytes}
use Rattle.reading.specs.Statement.{Operand, Operator, multiply, add, Covariate}
use Rattle.reading.specs.Answer.{Answer, accepted, refused}
use Rattle.labels.specs.declared.Family.TheVariants.{CovariateEffect}
use Rattle.read_forms.specs.declared.Modes as formModes
use Rattle.read_forms.specs.declared.Modes.TheVariants as form
use Rattle.read_forms.specs.Forms.{modes_in}
use Rattle.text.specs.Lists.{any, is_nil}
use Rattle.resolving.specs.Faults.{wrong_kind}
use Rattle.resolving.specs.Context.{Context, CovariateKind, continuous, categorical}
use Rattle.resolving.specs.Symbols.{Meaning}
use Rattle.resolving.specs.Operands.{parameters_of, covariates_of}
use Rattle.resolving.specs.Effects.{Effect, forms_of, effects_of, against, optional_number, operator_number}
use Rattle.resolving.specs.Brought.{Brought, dropped, brings, is_explicit, bring_feature, whole}
use Rattle.resolve_operands.specs.Picked.{Indexes}
use Rattle.print_writing.specs.Written.{Written}
use Rattle.resolve_grounding.proofs.Sizes.{whole-few}
use Rattle.resolve_terms.specs.Terms.{head_number, parameter_terms}
use Rattle.resolve_merging.specs.Packing.{term_of}
use Rattle.resolve_features.specs.Terms.{SmallForms, Termed}
use Rattle.resolve_features.proofs.TermLaws.{Below, terms-mean, terms-few}

-- A list of indexes: whether there are any, and that they are small.

none_nil : (is : List ℕ) → length is ≡ 0 → is_nil is ≡ true
none_nil [] h = refl
none_nil (i ∷ is) h = absurd (omega (arith, h))

some_nil : (is : List ℕ) → (length is ≡ 0 → ⊥) → is_nil is ≡ false
some_nil [] h = absurd (h refl)
some_nil (i ∷ is) h = refl

all-below : (m : ℕ) (is : List ℕ) → ((k : ℕ) → k < length is → get_or is k 0 < m) → Below m is
all-below m [] h = refl
all-below m (i ∷ is) h = rw (lt-ltb i m (h 0 (omega arith))) (all-below m is (λ k l. h (suc k) (omega (arith, l))))

-- of a list with at most 64 entries
pub indexes-more : {n : ℕ} {is : List ℕ} → Indexes n is → n ≤ 64 → Indexes 64 is
indexes-more x h = record { few = x.few; below = λ k l. omega (arith, h, x.below k l) }

-- Modes in a number are at most 8, so forms are.

forms-few : (es : formModes.Modes) (k : Option CovariateKind) → length (forms_of (modes_in es) k) ≤ 8
unfolding modes_in whole
forms-few form.Wildcard none = omega arith
forms-few form.Wildcard (some continuous) = omega arith
forms-few form.Wildcard (some categorical) = omega arith
forms-few (form.List n) k = whole-few CovariateEffect (form.List n)

-- What terms have in common is a small number.

pub mark-small : (x : Bool) → optional_number x ≤ 1
mark-small true = omega arith
mark-small false = omega arith

pub sign_small : (op : Operator) → operator_number op ≤ 1
sign_small multiply = omega arith
sign_small add = omega arith

pub head_small : (i : ℕ) (x : Bool) (op : Operator) (m : Bool) → i < 256 → head_number i x op m ≤ 66977795
head_small i x op m h = omega (arith, h, mark-small x, sign_small op, mark-small m)

-- A COVARIATE that is to be brought.
pub record Call : Type 0 where
  pub context : Context
  pub look : Meaning
  pub optional : Bool
  pub parameters : Operand
  pub covariates : Operand
  pub effects : formModes.Modes
  pub op : Operator

abbrev pub brought_of : Call → Answer Brought
brought_of q =
    bring_feature q.context q.look (Covariate q.optional q.parameters q.covariates (modes_in q.effects) q.op)

abbrev pub numbers_of : Call → List ℕ → List ℕ → ℕ → List ℕ
numbers_of q ps vs h = parameter_terms q.context (modes_in q.effects) h ps vs

-- what its operands are
module _ (q : Call) where
  abbrev pub first_of : Answer (List ℕ)
  first_of = parameters_of q.context q.look (bytes "PK") q.parameters

  abbrev pub second_of : Answer (List ℕ)
  second_of = covariates_of q.context q.look q.covariates

  -- one of them is refused
  pub covariate-refused : {k : ℕ} → first_of ≡ refused k 0 → brought_of q ≡ refused k 0
  covariate-refused h = rw h refl

  pub covariate-refused_2 : {ps : List ℕ} {k : ℕ} → first_of ≡ accepted ps → second_of ≡ refused k 0 → brought_of q ≡ refused k 0
  covariate-refused_2 h g = rw (h, g) refl

-- they are found: these indexes
pub record Found (q : Call) (ps vs : List ℕ) : Type 0 where
  pub first : first_of q ≡ accepted ps
  pub second : second_of q ≡ accepted vs
  pub indexes : Indexes 64 ps
  pub indexes_2 : Indexes 64 vs

module _ {q : Call} {ps vs : List ℕ} (f : Found q ps vs) where
  pub numbers-few : (h : ℕ) → length (numbers_of q ps vs h) ≤ 32768
  numbers-few h =
      omega (arith, terms-few q.context (modes_in q.effects) (forms-few q.effects) h ps vs f.indexes_2.few, f.indexes.few)

  pub covariate-dropped : length ps ≡ 0 → brought_of q ≡ accepted dropped
  covariate-dropped h = rw (f.first, f.second, none_nil ps h) refl

  module _ (some_own : length ps ≡ 0 → ⊥) where
    pub covariate-dropped-2 : length vs ≡ 0 → brought_of q ≡ accepted dropped
    covariate-dropped-2 h = rw (f.first, f.second, some_nil ps some_own, none_nil vs h) refl

    module _ (some_others : length vs ≡ 0 → ⊥) {t : Bool} (asked : t ≡ any (against q.context (modes_in q.effects)) vs) where
      abbrev effects : List Effect
      effects = effects_of q.context q.optional (modes_in q.effects) q.op ps vs

      decided : brought_of q ≡ cond t (refused wrong_kind 0) (accepted (brings (is_explicit q.parameters) effects))
      decided = rw (f.first, f.second, some_nil ps some_own, some_nil vs some_others, sym asked) refl

      pub covariate-against : t ≡ true → brought_of q ≡ refused wrong_kind 0
      covariate-against h = decided ∙ rw h refl

      pub covariate-termed :
          t ≡ false
          → SmallForms (modes_in q.effects)
          → (i : ℕ)
          → i < 256
          → {h : ℕ}
          → h ≡ head_number i (is_explicit q.parameters) q.op q.optional
          → {before : List ℕ} {at : ℕ} {after : List ℕ} {r : ℕ}
          → Written before at (numbers_of q ps vs h) after r
          → Termed (brought_of q) i before at after r
      covariate-termed suits small i hi {h} head w =
          record {
            explicit = is_explicit q.parameters;
            effects = effects;
            numbers = numbers_of q ps vs h;
            brought = decided ∙ rw suits refl;
            mean =
                ap (λ (j : ℕ). map term_of (numbers_of q ps vs j)) head
                ∙ terms-mean q.context i hi (is_explicit q.parameters) q.optional (modes_in q.effects) q.op small
                ps vs (all-below 64 ps f.indexes.below) (all-below 64 vs f.indexes_2.below);
            written = w;
            few = numbers-few h;
          }
