-- Lines of effects: how long they can be, and one more of them.
-- Assumes nothing.
use mathlib.Core.Path.{◌≡◌, refl, ◌∙◌, ap}
use mathlib.Core.Bool.{Bool, true, false, cond}
use mathlib.Core.List.{List, [], ◌∷◌, ◌++◌, map, append-nil}
use Prim.Native.Nat.{ℕ, zero, suc, ◌+◌, ◌*◌, ◌≤◌, ◌<◌}
use native.Mathlib.Numerals.{add-one}
use native.Mathlib.Omega.{arith}
use borrow.Author.Tests.{leb-true, leb-false}
use lib.Dec.{eqb, leb}
use lib.ListN.{length, take, get_or, length-append, length-map, get_or-eq_default}
use lib.Seq.{take-suc, length-take-le}
use Rattle.text.specs.Bytes.{bytes}
use Rattle.text.specs.Lists.{gather}
use Rattle.text.proofs.Appended.{map-append, gather_append}
use Rattle.labels.specs.declared.Family.TheVariants.{CovariateEffect}
use Rattle.labels.specs.Label.{labels_of}
use Rattle.resolving.specs.Context.{Context}
use Rattle.resolving.specs.Effects.{Effect}
use Rattle.resolving.specs.Handed.{handed_context}
use Rattle.resolve_context.specs.declared.Names.{Names}
use Rattle.resolve_context.specs.declared.Layout.{Layout}
use Rattle.resolve_context.specs.Lists.{Stands, Sound, pairs_in, names_in, covariates_of}
use Rattle.resolve_context.proofs.Pairs.{length_pairs}
use Rattle.resolve_context.proofs.Meaning.{parameters_sound, covariates_sound, parameters-are, covariates-are, sound_named}
use Rattle.lines.specs.Effects.{operator_word, optional_word, form_words, effect_line, effect_lines}
use Rattle.print_lines.specs.Given.{effect_in}

-- what is no entry of a list has no name
pub no_name : (b l : List ℕ) (n : Names) (i : ℕ) → n.count ≤ i → get_or (names_in b l n) i [] ≡ []
unfolding names_in
no_name b l n i h =
    get_or-eq_default (names_in b l n) []
    (let e : length (names_in b l n) ≡ n.count = length-map (pairs_in l n) _ ∙ length_pairs l n.start n.step n.count in omega arith)

-- "A name has 1 to 32 bytes"
name-short : (b l : List ℕ) (n : Names) → Sound b l n → (i : ℕ) → length (get_or (names_in b l n) i []) ≤ 32
name-short b l n s i = by_test (leb n.count i) refl
  where
    by_test : (t : Bool) → leb n.count i ≡ t → length (get_or (names_in b l n) i []) ≤ 32
    by_test true e = omega (arith, ap length (no_name b l n i (leb-true n.count i e)))
    by_test false e = (sound_named b l n s i (leb-false n.count i e)).few

form-short : (i : ℕ) → length (get_or (labels_of CovariateEffect) i []) ≤ 9
unfolding labels_of
form-short zero = omega arith
form-short (suc zero) = omega arith
form-short (suc (suc zero)) = omega arith
form-short (suc (suc (suc zero))) = omega arith
form-short (suc (suc (suc (suc zero)))) = omega arith
form-short (suc (suc (suc (suc (suc zero))))) = omega arith
form-short (suc (suc (suc (suc (suc (suc zero)))))) = omega arith
form-short (suc (suc (suc (suc (suc (suc (suc i))))))) = omega arith

operator-short : (n : ℕ) → length (operator_word n) ≤ 3
unfolding operator_word
operator-short n = by_test (eqb n 1)
  where
    by_test : (t : Bool) → length (cond t (bytes " + ") (bytes " * ")) ≤ 3
    by_test true = omega arith
    by_test false = omega arith

optional-short : (n : ℕ) → length (optional_word n) ≤ 10
unfolding optional_word
optional-short n = by_test (eqb n 1)
  where
    by_test : (t : Bool) → length (cond t (bytes "optional\n") (bytes "mandatory\n")) ≤ 10
    by_test true = omega arith
    by_test false = omega arith

module _ (b l : List ℕ) (y : Layout) (s : Stands b l y) where
  -- an effect's line by the names where they stand in the run
  pub effect_by_names : (e : Effect)
      → effect_line (handed_context b l) e
      ≡ get_or (names_in b l y.parameters) e.parameter []
      ++ (bytes " " ++ (get_or (names_in b l (covariates_of y)) e.covariate [] ++ (bytes " " ++ form_words e)))
  unfolding effect_line
  effect_by_names e = rw (parameters-are b l y s, covariates-are b l y s)

  pub effect-short : (e : Effect) → length (effect_line (handed_context b l) e) ≤ 88
  unfolding effect_line form_words
  effect-short e =
      let p = name-short b l y.parameters (parameters_sound b l y s) e.parameter in
      let c = name-short b l (covariates_of y) (covariates_sound b l y s) e.covariate in
      rw (parameters-are b l y s, covariates-are b l y s)
      (simp length-append (omega (arith, form-short e.form, operator-short e.operator, optional-short e.optional)))

  pub effects-short : (es : List Effect) → length (effect_lines (handed_context b l) es) ≤ 88 * length es
  unfolding effect_lines
  effects-short [] = omega arith
  effects-short (e ∷ es) =
      omega (
        arith,
        length-append (effect_line (handed_context b l) e) (gather (effect_line (handed_context b l)) es),
        effect-short e,
        effects-short es,
      )

-- one more effect
pub one-effect-more : (c : Context) (es : List (List ℕ)) (i : ℕ) → i < length es
    → effect_lines c (map effect_in (take (i + 1) es)) ≡ effect_lines c (map effect_in (take i es)) ++ effect_line c (effect_in (get_or es i []))
unfolding effect_lines
one-effect-more c es i h =
    rw (add-one, take-suc es i [] h, map-append effect_in (take i es) (get_or es i [] ∷ []))
    (gather_append (effect_line c) (map effect_in (take i es)) (effect_in (get_or es i []) ∷ [])
    ∙ ap (λ (l : List ℕ). gather (effect_line c) (map effect_in (take i es)) ++ l) (append-nil (effect_line c (effect_in (get_or es i [])))))

-- so many effects take less than can be told
pub few-effects : (n i : ℕ) (es : List (List ℕ)) → n ≤ 88 * length (map effect_in (take i es)) → i ≤ 2048 → i ≤ length es → n ≤ 180224
few-effects n i es h k m = let e : length (map effect_in (take i es)) ≡ i = length-map (take i es) effect_in ∙ length-take-le i es m in omega arith
