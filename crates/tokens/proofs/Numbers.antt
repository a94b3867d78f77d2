-- How many bytes a number takes: the digits, and then a point with the digits after it, or nothing.
-- Assumes nothing.
use mathlib.Core.Path.{◌≡◌, refl, ◌∙◌, ap, sym, fun_ext}
use mathlib.Core.Bool.{Bool, true, false, cond, and-false, ◌&&◌}
use mathlib.Core.List.{List, [], ◌∷◌}
use Prim.Native.Nat.{ℕ, suc, ◌+◌, ◌<◌, ◌≤◌}
use native.Mathlib.Nat.{add_assoc, add-zero}
use native.Mathlib.Numerals.{add-one}
use native.Mathlib.Omega.{arith}
use borrow.Author.Tests.{ne_eqb}
use lib.ListN.{length, get_or, drop, length-drop}
use lib.Seq.{drop-cons, drop-drop}
use Rattle.text.specs.Bytes.{span}
use Rattle.tokens.specs.Class.{class_number, class_between, is_a, dot, digit}
use Rattle.tokens.specs.Lex.{in_number, fraction, number_rest}
use Rattle.tokens.proofs.Classes.{number-run}
use Rattle.tokens.proofs.Runs.{span-most}

-- what holds of a text without a fraction, and of a point, a digit and the digits after it, holds of any
pub fraction_case :
    (P : List ℕ → ℕ → Type 0) (l : List ℕ)
    → P l 0
    → ((p d : ℕ) (ds : List ℕ) → is_a dot p ≡ true → is_a digit d ≡ true → P (p ∷ d ∷ ds) (suc (suc (span in_number ds))))
    → P l (fraction l)
unfolding fraction
fraction_case P [] z f = z
fraction_case P (p ∷ []) z f = z
fraction_case P (p ∷ d ∷ ds) z f = go (is_a dot p) refl (is_a digit d) refl
  where
    go : (t : Bool) → is_a dot p ≡ t → (u : Bool) → is_a digit d ≡ u → P (p ∷ d ∷ ds) (cond (t && u) (2 + span in_number ds) 0)
    go true a true b = let n : 2 + span in_number ds ≡ suc (suc (span in_number ds)) = omega arith in rw n (f p d ds a b)
    go true a false b = z
    go false a u b = z

fraction-most : (bs : List ℕ) → fraction bs ≤ length bs
fraction-most bs = fraction_case (λ l n. n ≤ length l) bs (omega arith) (λ p d ds a b. omega (arith, span-most in_number ds))

pub number-most : (bs : List ℕ) → number_rest bs ≤ length bs
unfolding number_rest
number-most bs =
    omega (
      arith,
      span-most in_number bs,
      simp length-drop at (fraction-most (drop (span in_number bs) bs)),
    )

-- the digits from an offset end at a place, and the number there, or after a point and the digits that follow it
module _ (s : List ℕ) (at p : ℕ) (e : p ≡ at + span (class_between 8 8) (drop at s)) where
  whole : at + number_rest (drop at s) ≡ p + fraction (drop p s)
  unfolding number_rest
  whole =
      sym (add_assoc at _ _)
      ∙ ap (λ (l : List ℕ). at + span in_number (drop at s) + fraction l) (drop-drop (span in_number (drop at s)) at s)
      ∙ ap (λ (q : ℕ → Bool). at + span q (drop at s) + fraction (drop (at + span q (drop at s)) s)) (sym (fun_ext number-run))
      ∙ ap (λ (n : ℕ). n + fraction (drop n s)) (sym e)

  plain : fraction (drop p s) ≡ 0 → p ≡ at + number_rest (drop at s)
  plain f = sym (whole ∙ ap (λ (n : ℕ). p + n) f ∙ add-zero p)

  pub ends_last : length s ≤ p + 1 → p ≡ at + number_rest (drop at s)
  unfolding fraction
  ends_last h = plain (go (drop p s) (simp length-drop (omega arith)))
    where
      go : (l : List ℕ) → length l ≤ 1 → fraction l ≡ 0
      go [] h = refl
      go (p ∷ []) h = refl
      go (p ∷ d ∷ ds) h = absurd (omega arith)

  module _ (h : p + 1 < length s) where
    two : drop p s ≡ get_or s p 0 ∷ get_or s (p + 1) 0 ∷ drop (p + 2) s
    two =
        let later : suc (p + 1) ≡ p + 2 = omega arith in
        drop-cons s p 0 (omega arith)
        ∙ ap (λ (n : ℕ). get_or s p 0 ∷ drop n s) (sym (add-one p))
        ∙ ap (λ (l : List ℕ). get_or s p 0 ∷ l) (drop-cons s (p + 1) 0 h ∙ ap (λ (n : ℕ). get_or s (p + 1) 0 ∷ drop n s) later)

    pub ends-no-point : (class_number (get_or s p 0) ≡ 3 → ⊥) → p ≡ at + number_rest (drop at s)
    unfolding fraction
    ends-no-point k = plain (simp (two, ne_eqb _ _ k))

    pub ends-no-digit : (class_number (get_or s (p + 1) 0) ≡ 8 → ⊥) → p ≡ at + number_rest (drop at s)
    unfolding fraction
    ends-no-digit k = plain (simp (two, ne_eqb _ _ k, and-false))

    pub ends-digits :
        class_number (get_or s p 0) ≡ 3
        → class_number (get_or s (p + 1) 0) ≡ 8
        → p + 2 + span (class_between 8 8) (drop (p + 2) s) ≡ at + number_rest (drop at s)
    unfolding fraction
    ends-digits k l =
        sym
        (whole
        ∙ simp (two, k, l)
        (ap (λ (q : ℕ → Bool). p + (2 + span q (drop (p + 2) s))) (sym (fun_ext number-run)) ∙ sym (add_assoc p 2 _)))
