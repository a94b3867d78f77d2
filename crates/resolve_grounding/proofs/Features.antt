-- What a feature brings, and how its ground statement prints: with its modes made whole, or with names of the context.
-- Assumes nothing.
use Prim.Native.Nat.{ℕ, suc}
use mathlib.Core.Path.{◌≡◌, refl, ◌∙◌, ap}
use mathlib.Core.Bool.{Bool, true, false, false≢true}
use mathlib.Core.List.{List, [], ◌∷◌, ◌++◌, append_assoc}
use mathlib.Core.Option.{Option, some, none}
use native.Mathlib.Omega.{arith}
use borrow.Author.Tests.{le-ltb}
use lib.Dec.{ltb}
use lib.ListN.{length, get_or}
use Rattle.text.specs.Bytes.{bytes}
use Rattle.tokens.specs.Token.{Shape}
use Rattle.tokens.specs.Spelling.{spell_all}
use Rattle.labels.specs.declared.Family.TheVariants.{VariabilityEffect, VariabilityLevel}
use Rattle.labels.specs.Label.{keywords}
use Rattle.reading.specs.Answer.{Answer, accepted, refused}
use Rattle.reading.specs.Parts.{parts_of, feature_parts}
use Rattle.reading.specs.Statement.{
  Name,
  Modes,
  Operand,
  Feature,
  Absorption,
  Elimination,
  Peripherals,
  Transits,
  Lagtime,
  Covariate,
  Allometry,
  DirectEffect,
  EffectComp,
  IndirectEffect,
  Metabolite,
  Iiv,
  Iov,
  Covariance,
  feature,
  estimated,
  counted,
}
use Rattle.canonical.specs.Canonical.{call_shapes, operand_shapes, modes_shapes, taken_shapes, statement_shapes}
use Rattle.text.specs.Lists.{is_nil, place_in, same_bytes}
use Rattle.resolving.specs.Context.{Context, covariates}
use Rattle.resolving.specs.Symbols.{Meaning}
use Rattle.resolving.specs.Operands.{parameters_of}
use Rattle.resolving.specs.Brought.{Brought, stays, whole, plain_name, listed, drop_if, bring_feature}
use Rattle.print_statements.specs.Bytes.{head_of}
use Rattle.print_statements.proofs.Bytes.{call_bytes, first-argument}
use Rattle.resolve_grounding.specs.Whole.{all_whole}
use Rattle.resolve_grounding.specs.Listed.{variable_bytes}

-- Features without an operand or a name of the model.

abbrev pub is_plain : Feature → Bool
is_plain (Absorption ms) = true
is_plain (Elimination ms) = true
is_plain (Peripherals n ms) = true
is_plain (Transits n ms) = true
is_plain (Lagtime ms) = true
is_plain (Covariate m ps cs es op) = false
is_plain (Allometry n r) = false
is_plain (DirectEffect ms) = true
is_plain (EffectComp ms) = true
is_plain (IndirectEffect ms ps) = true
is_plain (Metabolite ms) = true
is_plain (Iiv m ps es) = false
is_plain (Iov m ps es) = false
is_plain (Covariance m ls ps) = false

-- a feature that stays, and prints as the whole parts of another
pub record Whole (a : Answer Brought) (f : Feature) : Type 0 where
  pub left : Feature
  pub brought : a ≡ accepted (stays left)
  pub shapes : statement_shapes (feature left) ≡ taken_shapes (all_whole (parts_of (feature f)))

module _ (c : Context) (look : Meaning) where
  pub plain-stays : (f : Feature) → is_plain f ≡ true → Whole (bring_feature c look f) f
  unfolding statement_shapes parts_of feature_parts
  plain-stays (Absorption ms) e = record { left = _; brought = refl; shapes = refl }
  plain-stays (Elimination ms) e = record { left = _; brought = refl; shapes = refl }
  plain-stays (Peripherals n none) e = record { left = _; brought = refl; shapes = refl }
  plain-stays (Peripherals n (some ms)) e = record { left = _; brought = refl; shapes = refl }
  plain-stays (Transits estimated none) e = record { left = _; brought = refl; shapes = refl }
  plain-stays (Transits estimated (some ms)) e = record { left = _; brought = refl; shapes = refl }
  plain-stays (Transits (counted n) none) e = record { left = _; brought = refl; shapes = refl }
  plain-stays (Transits (counted n) (some ms)) e = record { left = _; brought = refl; shapes = refl }
  plain-stays (Lagtime ms) e = record { left = _; brought = refl; shapes = refl }
  plain-stays (Covariate m ps cs es op) e = absurd (false≢true e)
  plain-stays (Allometry n r) e = absurd (false≢true e)
  plain-stays (DirectEffect ms) e = record { left = _; brought = refl; shapes = refl }
  plain-stays (EffectComp ms) e = record { left = _; brought = refl; shapes = refl }
  plain-stays (IndirectEffect ms ps) e = record { left = _; brought = refl; shapes = refl }
  plain-stays (Metabolite ms) e = record { left = _; brought = refl; shapes = refl }
  plain-stays (Iiv m ps es) e = absurd (false≢true e)
  plain-stays (Iov m ps es) e = absurd (false≢true e)
  plain-stays (Covariance m ls ps) e = absurd (false≢true e)

  -- ALLOMETRY stays where its covariate is in the model.
  pub allometry_stays :
      (n : Name) (r : Option Name) (i : ℕ)
      → place_in (same_bytes n.spelling) (covariates c) ≡ some i
      → Whole (bring_feature c look (Allometry n r)) (Allometry n r)
  unfolding statement_shapes parts_of feature_parts
  allometry_stays n none i e = record { left = Allometry (plain_name n.spelling) none; brought = rw e refl; shapes = refl }
  allometry_stays n (some x) i e = record { left = Allometry (plain_name n.spelling) (some (plain_name x.spelling)); brought = rw e refl; shapes = refl }

  pub allometry_refused :
      (n : Name) (r : Option Name) → place_in (same_bytes n.spelling) (covariates c) ≡ none → bring_feature c look (Allometry n r) ≡ refused 15 0
  allometry_refused n r e = rw e refl

-- Statements of names and modes: dropped where there are too few names.

module _ (c : Context) (look : Meaning) (m : Bool) (ps : Operand) (is : List ℕ) where
  empty : (xs : List ℕ) → ltb (length xs) 1 ≡ is_nil xs
  empty [] = refl
  empty (x ∷ xs) = le-ltb (suc (length xs)) 1 (omega arith)

  pub iiv-brings :
      (es : Modes)
      → parameters_of c look (bytes "PK") ps ≡ accepted is
      → bring_feature c look (Iiv m ps es)
      ≡ accepted (drop_if (ltb (length is) 1) (stays (Iiv m (listed c.parameters is) (whole VariabilityEffect es))))
  iiv-brings es e = rw (e, empty is) refl

  pub iov_brings :
      (es : Modes)
      → parameters_of c look (bytes "IIV") ps ≡ accepted is
      → bring_feature c look (Iov m ps es)
      ≡ accepted (drop_if (ltb (length is) 1) (stays (Iov m (listed c.parameters is) (whole VariabilityEffect es))))
  iov_brings es e = rw (e, empty is) refl

  pub covariance_brings :
      (ls : Modes)
      → parameters_of c look (bytes "IIV") ps ≡ accepted is
      → bring_feature c look (Covariance m ls ps)
      ≡ accepted (drop_if (ltb (length is) 2) (stays (Covariance m (whole VariabilityLevel ls) (listed c.parameters is))))
  covariance_brings ls e = rw e refl

two_bytes :
    (k : List ℕ) (m : Bool) (a b : List Shape)
    → spell_all (call_shapes k m (a ∷ b ∷ [])) ≡ head_of k m ++ (spell_all a ++ (bytes "," ++ (spell_all b ++ bytes ")")))
two_bytes k m a b =
    call_bytes k m (a ∷ b ∷ [])
    ∙ ap (λ (l : List ℕ). head_of k m ++ (l ++ bytes ")")) (first-argument a (b ∷ []))
    ∙ simp append_assoc

module _ (list : List (List ℕ)) (m : Bool) (is : List ℕ) where
  pub iiv-bytes : (es : Modes) → spell_all (statement_shapes (feature (Iiv m (listed list is) es))) ≡ variable_bytes 11 m list is VariabilityEffect es true
  unfolding statement_shapes parts_of feature_parts
  iiv-bytes es = two_bytes (get_or keywords 11 []) m (operand_shapes (listed list is)) (modes_shapes VariabilityEffect es)

  pub iov_bytes : (es : Modes) → spell_all (statement_shapes (feature (Iov m (listed list is) es))) ≡ variable_bytes 12 m list is VariabilityEffect es true
  unfolding statement_shapes parts_of feature_parts
  iov_bytes es = two_bytes (get_or keywords 12 []) m (operand_shapes (listed list is)) (modes_shapes VariabilityEffect es)

  pub covariance_bytes :
      (ls : Modes) → spell_all (statement_shapes (feature (Covariance m ls (listed list is)))) ≡ variable_bytes 13 m list is VariabilityLevel ls false
  unfolding statement_shapes parts_of feature_parts
  covariance_bytes ls = two_bytes (get_or keywords 13 []) m (modes_shapes VariabilityLevel ls) (operand_shapes (listed list is))
