-- What a feature comes to, from what was printed of it.
-- Assumes nothing.
use Rattle.read_forms.specs.declared.Fault.{Fault}
use Rattle.read_forms.specs.Faults.{number_of}
use Prim.Native.Nat.{ℕ, ◌≤◌}
use mathlib.Core.Path.{◌≡◌, refl, ◌∙◌, ap, sym, subst}
use mathlib.Core.Bool.{Bool, true, false, false≢true}
use mathlib.Core.List.{List, [], ◌∷◌, ◌++◌}
use mathlib.Core.Option.{Option, some, none}
use lib.Dec.{ltb}
use lib.ListN.{length, get_or}
use denote.Enum.Declared.{tag_of}
use types.Run.{OneOf, miss}
use Rattle.text.specs.Bytes.{bytes}
use Rattle.tokens.specs.Spelling.{spell_all}
use Rattle.labels.specs.declared.Family.{Family}
use Rattle.labels.specs.declared.Family.TheVariants.{VariabilityEffect, VariabilityLevel}
use Rattle.labels.specs.Label.{keywords}
use Rattle.reading.specs.Answer.{Answer, accepted, refused}
use Rattle.reading.specs.Parts.{Parts, parts_of}
use Rattle.reading.specs.Statement.{Feature, feature, Iiv, Iov, Covariance}
use Rattle.canonical.specs.Canonical.{modes_shapes, statement_shapes, taken_shapes}
use Rattle.read_forms.specs.declared.Name.{Name}
use Rattle.read_forms.specs.declared.Name as form_name
use Rattle.read_forms.specs.declared.Modes.{Modes}
use Rattle.read_forms.specs.declared.Operand.{Operand}
use Rattle.read_forms.specs.declared.Feature as forms
use Rattle.read_forms.specs.declared.Feature.TheVariants as form
use Rattle.read_forms.specs.declared.Statement.TheVariants as statement
use Rattle.read_forms.specs.Items.{name_in}
use Rattle.read_forms.specs.Forms.{modes_in, operand_in, some_in, feature_in, statement_in}
use Rattle.read_forms.specs.contracts.Feature.{the_type}
use Rattle.read_parts.specs.Apart.{one, feature_apart, apart}
use Rattle.read_parts.specs.Meaning.{parts_in}
use Rattle.read_parts.proofs.Meaning.{taken}
use Rattle.print_writing.specs.Written.{Written}
use Rattle.canonical.specs.Lines.{joint_of}
use Rattle.text.specs.Lists.{place_in, same_bytes}
use Rattle.resolving.specs.Context.{Context, covariates}
use Rattle.resolving.specs.Symbols.{Meaning}
use Rattle.resolving.specs.Brought.{Brought, stays, whole, listed, drop_if, bring_feature}
use Rattle.resolving.specs.Handed.{handed_context}
use Rattle.resolve_operands.specs.Entries.{meaning_in, parameters_in}
use Rattle.print_statements.proofs.Bytes.{call_bytes}
use Rattle.resolve_grounding.specs.Whole.{all_whole}
use Rattle.resolve_grounding.specs.Listed.{variable_bytes}
use Rattle.resolve_grounding.proofs.Sizes.{form-short}
use Rattle.resolve_grounding.proofs.Features.{
  is_plain,
  Whole,
  plain-stays,
  allometry_stays,
  allometry_refused,
  iiv-brings,
  iov_brings,
  covariance_brings,
  iiv-bytes,
  iov_bytes,
  covariance_bytes,
}
use Rattle.std.specs.Prelude as prelude
use Rattle.resolve_features.specs.Stays.{is_covariate, alone_bytes, is_some, Short, Stood, StayAs, VariablesAs}
use Rattle.resolve_features.proofs.Variables.{piece-small}

-- Statements whose modes are made whole.

abbrev pub whole_of : List ℕ → forms.Feature → List ℕ
whole_of s f = spell_all (taken_shapes (all_whole (parts_in s (apart (statement.Feature f)))))

taken-apart : (s : List ℕ) (f : forms.Feature) → parts_in s (apart (statement.Feature f)) ≡ parts_of (feature (feature_in s f))
unfolding statement_in
taken-apart s f = (taken s (statement.Feature f)).mean

pub whole-short : (s : List ℕ) (f : forms.Feature) → Short s f → length (whole_of s f) ≤ 20000
unfolding statement_shapes
whole-short s f h = form-short s (apart (statement.Feature f)) (rw (taken-apart s f) h)

-- modes alone
pub alone_bytes_lem :
    (s : List ℕ) (f : forms.Feature) (k : ℕ) (family : Family) (m : Modes) → feature_apart f ≡ one k family m → whole_of s f ≡ alone_bytes k family m
unfolding apart parts_in
alone_bytes_lem s f k family m e = rw e (call_bytes (get_or keywords k []) false (modes_shapes family (whole family (modes_in m)) ∷ []))

module _ {a : Answer Brought} (s : List ℕ) (f : forms.Feature) (n : ℕ) {before : List ℕ} {at : ℕ} {after : List ℕ} {r : ℕ} where
  pub whole_stood : Short s f → Whole a (feature_in s f) → Written before at (joint_of n ++ whole_of s f) after r → Stood a n before at after r
  whole_stood h w v =
      let e : spell_all (statement_shapes (feature w.left)) ≡ whole_of s f =
      ap spell_all w.shapes ∙ ap (λ (p : Parts). spell_all (taken_shapes (all_whole p))) (sym (taken-apart s f)) in
      record {
        left = w.left;
        brought = w.brought;
        written = subst (λ (l : List ℕ). Written before at (joint_of n ++ l) after r) (sym e) v;
        small = subst (λ (l : List ℕ). length (joint_of n ++ l) ≤ 20001) (sym e) (piece-small n (whole_of s f) (whole-short s f h));
      }

-- Statements of parameters and modes.
module _
    (s b l lets : List ℕ) (n : ℕ) (star : List ℕ) (least k : ℕ) (m : Bool) (ps : Operand) (f : Family) (ms : Modes) (named : Bool)
    (a : Answer Brought) (ground : List ℕ → Feature)
    (on : (is : List ℕ) → parameters_in s lets n b l star ps ≡ accepted is → a ≡ accepted (drop_if (ltb (length is) least) (stays (ground is))))
    (off : (q : ℕ) → parameters_in s lets n b l star ps ≡ refused q 0 → a ≡ refused q 0)
    (same : (is : List ℕ) → spell_all (statement_shapes (feature (ground is))) ≡ variable_bytes k m (handed_context b l).parameters is f (whole f (modes_in ms)) named)
    (before : ℕ) (old : List ℕ) (at : ℕ) (new : List ℕ) where
  pub variables_stay : (r : prelude.Result (prelude.Option ℕ) Fault) → VariablesAs s b l lets n star least k m ps f ms named before old at new r → StayAs a before old at new r
  unfolding VariablesAs StayAs
  variables_stay (prelude.Ok (prelude.Some r)) v = record {
    left = ground v.indexes;
    brought = on v.indexes v.found ∙ ap (λ (t : Bool). accepted (drop_if t (stays (ground v.indexes)))) v.enough;
    written = subst (λ (x : List ℕ). Written old at (joint_of before ++ x) new r) (sym (same v.indexes)) v.written;
    small = subst (λ (x : List ℕ). length (joint_of before ++ x) ≤ 20001) (sym (same v.indexes)) v.small;
  }
  variables_stay (prelude.Ok prelude.None) v =
      (on v.indexes v.found ∙ ap (λ (t : Bool). accepted (drop_if t (stays (ground v.indexes)))) v.tooFew, v.same)
  variables_stay (prelude.Err q) v = (off (number_of q) v.0, v.1)

-- The features one by one.
module _ (s b l lets : List ℕ) (n : ℕ) where
  abbrev c : Context
  c = handed_context b l

  abbrev look : Meaning
  look = meaning_in s lets n (handed_context b l)

  abbrev pub comes : forms.Feature → Answer Brought
  comes f = bring_feature c look (feature_in s f)

  module _ (before : ℕ) (old : List ℕ) (at : ℕ) (new : List ℕ) where
    pub iiv-stay : (m : Bool) (ps : Operand) (es : Modes) (r : prelude.Result (prelude.Option ℕ) Fault)
        → VariablesAs s b l lets n (bytes "PK") 1 11 m ps VariabilityEffect es true before old at new r
        → StayAs (comes (form.Iiv m ps es)) before old at new r
    unfolding feature_in
    iiv-stay m ps es r v =
        variables_stay s b l lets n (bytes "PK") 1 11 m ps VariabilityEffect es true (comes (form.Iiv m ps es)) (λ is. Iiv m (listed c.parameters is) (whole VariabilityEffect (modes_in es)))
        (λ is e. iiv-brings c look m (operand_in s ps) is (modes_in es) e) (λ q e. rw e refl)
        (λ is. iiv-bytes c.parameters m is (whole VariabilityEffect (modes_in es))) before old at new r v

    pub iov-stay : (m : Bool) (ps : Operand) (es : Modes) (r : prelude.Result (prelude.Option ℕ) Fault)
        → VariablesAs s b l lets n (bytes "IIV") 1 12 m ps VariabilityEffect es true before old at new r
        → StayAs (comes (form.Iov m ps es)) before old at new r
    unfolding feature_in
    iov-stay m ps es r v =
        variables_stay s b l lets n (bytes "IIV") 1 12 m ps VariabilityEffect es true (comes (form.Iov m ps es)) (λ is. Iov m (listed c.parameters is) (whole VariabilityEffect (modes_in es)))
        (λ is e. iov_brings c look m (operand_in s ps) is (modes_in es) e) (λ q e. rw e refl)
        (λ is. iov_bytes c.parameters m is (whole VariabilityEffect (modes_in es))) before old at new r v

    pub covariance-stay : (m : Bool) (ls : Modes) (ps : Operand) (r : prelude.Result (prelude.Option ℕ) Fault)
        → VariablesAs s b l lets n (bytes "IIV") 2 13 m ps VariabilityLevel ls false before old at new r
        → StayAs (comes (form.Covariance m ls ps)) before old at new r
    unfolding feature_in
    covariance-stay m ls ps r v =
        variables_stay s b l lets n (bytes "IIV") 2 13 m ps VariabilityLevel ls false (comes (form.Covariance m ls ps)) (λ is. Covariance m (whole VariabilityLevel (modes_in ls)) (listed c.parameters is))
        (λ is e. covariance_brings c look m (operand_in s ps) is (modes_in ls) e) (λ q e. rw e refl)
        (λ is. covariance_bytes c.parameters m is (whole VariabilityLevel (modes_in ls))) before old at new r v

  record Place (o : Option ℕ) : Type 0 where
    pub place : ℕ
    pub is : o ≡ some place

  some_place : (o : Option ℕ) → true ≡ is_some o → Place o
  some_place none e = absurd (false≢true (sym e))
  some_place (some i) e = record { place = i; is = refl }

  no_place : (o : Option ℕ) → false ≡ is_some o → o ≡ none
  no_place none e = refl
  no_place (some i) e = absurd (false≢true e)

  pub allometry_whole : (v : Name) (r : prelude.Option form_name.Name)
      → true ≡ is_some (place_in (same_bytes (name_in s v).spelling) (covariates (handed_context b l)))
      → Whole (comes (form.Allometry v r)) (feature_in s (form.Allometry v r))
  unfolding feature_in
  allometry_whole v r e =
      let p = some_place (place_in (same_bytes (name_in s v).spelling) (covariates c)) e in
      allometry_stays c look (name_in s v) (some_in (name_in s) r) p.place p.is

  pub allometry_fault : (v : Name) (r : prelude.Option form_name.Name)
      → false ≡ is_some (place_in (same_bytes (name_in s v).spelling) (covariates (handed_context b l)))
      → comes (form.Allometry v r) ≡ refused 15 0
  unfolding feature_in
  allometry_fault v r e = allometry_refused c look (name_in s v) (some_in (name_in s) r) (no_place (place_in (same_bytes (name_in s v).spelling) (covariates c)) e)

  -- what no arm takes is plain
  abbrev others : List ℕ
  others = 0 ∷ 1 ∷ 2 ∷ 3 ∷ 4 ∷ 5 ∷ 7 ∷ 8 ∷ 9 ∷ 10 ∷ []

  plain : (f : forms.Feature) → OneOf (0 ∷ 1 ∷ 2 ∷ 3 ∷ 4 ∷ 5 ∷ 7 ∷ 8 ∷ 9 ∷ 10 ∷ []) (tag_of the_type f) → is_covariate f ≡ false → is_plain (feature_in s f) ≡ true
  unfolding feature_in
  plain (form.Absorption m) k e = refl
  plain (form.Elimination m) k e = refl
  plain (form.Peripherals m o) k e = refl
  plain (form.Transits m o) k e = refl
  plain (form.Lagtime m) k e = refl
  plain (form.Covariate o p v m op) k e = absurd (false≢true (sym e))
  plain (form.Allometry v r) k e = absurd (miss others 6 tt k)
  plain (form.DirectEffect m) k e = refl
  plain (form.EffectComp m) k e = refl
  plain (form.IndirectEffect m p) k e = refl
  plain (form.Metabolite m) k e = refl
  plain (form.Iiv o p m) k e = absurd (miss others 11 tt k)
  plain (form.Iov o p m) k e = absurd (miss others 12 tt k)
  plain (form.Covariance o m p) k e = absurd (miss others 13 tt k)

  pub other-whole : (f : forms.Feature) → OneOf (0 ∷ 1 ∷ 2 ∷ 3 ∷ 4 ∷ 5 ∷ 7 ∷ 8 ∷ 9 ∷ 10 ∷ []) (tag_of the_type f) → is_covariate f ≡ false
      → Whole (comes f) (feature_in s f)
  other-whole f k e = plain-stays c look (feature_in s f) (plain f k e)
