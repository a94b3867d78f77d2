-- All bytes together are one word or one number: the first token of the text ends with it.
-- Assumes nothing.
use mathlib.Core.Path.{◌≡◌, refl, ◌∙◌, ap, sym}
use mathlib.Core.Bool.{Bool, true, false, cond, ◌&&◌, or-false}
use mathlib.Core.List.{List, [], ◌∷◌}
use Prim.Native.Nat.{ℕ, suc, ◌<◌, ◌≤◌}
use native.Mathlib.Nat.{zero-add}
use native.Mathlib.Omega.{arith}
use borrow.Author.Tests.{ne_eqb, eq-eqb, eqb-true, eqb-false}
use lib.Dec.{eqb}
use lib.ListN.{length, get_or}
use lib.Seq.{length-take-le}
use Rattle.text.specs.Bytes.{span, every}
use Rattle.tokens.specs.Class.{class_number}
use Rattle.tokens.specs.Token.{Tokens}
use Rattle.tokens.specs.Lex.{in_word, number_rest}
use Rattle.tokens.specs.Next.{by_kind, first, lexed_as, token_at}
use Rattle.tokens.specs.Spelling.{is_name}
use Rattle.tokens.proofs.Classes.{class_most}
use Rattle.tokens.proofs.Runs.{span-most}
use Rattle.tokens.proofs.Numbers.{number-most}
use Rattle.tokens.proofs.Steps.{at_word, at_number}

-- two tests for equality of successors
eqb_suc : (a b : ℕ) → eqb (suc a) (suc b) ≡ eqb a b
eqb_suc a b = by_test (eqb a b) refl
  where
    by_test : (t : Bool) → eqb a b ≡ t → eqb (suc a) (suc b) ≡ t
    by_test true e = eq-eqb (suc a) (suc b) (ap suc (eqb-true a b e))
    by_test false e = ne_eqb (suc a) (suc b) (λ h. eqb-false a b e (omega arith))

-- a run takes all of a text where every byte passes
span-every : (p : ℕ → Bool) (s : List ℕ) → eqb (span p s) (length s) ≡ every p s
span-every p [] = refl
span-every p (b ∷ bs) = by_test (p b) (span-every p bs)
  where
    by_test : (t : Bool) → eqb (span p bs) (length bs) ≡ every p bs → eqb (cond t (suc (span p bs)) 0) (suc (length bs)) ≡ (t && every p bs)
    by_test true h = eqb_suc (span p bs) (length bs) ∙ h
    by_test false h = ne_eqb 0 (suc (length bs)) (λ e. omega arith)

module _ (b : ℕ) (bs : List ℕ) where
  ends_word : class_number b ≡ 9 → (token_at (b ∷ bs) 0).next.at ≡ suc (span in_word bs)
  unfolding first lexed_as by_kind
  ends_word e =
      ap (λ (t : Tokens). (by_kind (suc (length bs)) (first t)).next.at) (at_word (b ∷ bs) 0 (omega arith) e)
      ∙ zero-add _
      ∙ ap suc (length-take-le (span in_word bs) bs (span-most in_word bs))

  ends_number : class_number b ≡ 8 → (token_at (b ∷ bs) 0).next.at ≡ suc (number_rest bs)
  unfolding first lexed_as by_kind
  ends_number e =
      ap (λ (t : Tokens). (by_kind (suc (length bs)) (first t)).next.at) (at_number (b ∷ bs) 0 (omega arith) e)
      ∙ zero-add _
      ∙ ap suc (length-take-le (number_rest bs) bs (number-most bs))

  word-is : class_number b ≡ 9 → is_name (b ∷ bs) ≡ every in_word bs
  word-is e = simp (e, or-false)

  number_is : class_number b ≡ 8 → is_name (b ∷ bs) ≡ eqb (number_rest bs) (length bs)
  number_is e = simp e

pub empty_name : (w : List ℕ) → length w ≡ 0 → is_name w ≡ false
empty_name [] h = refl
empty_name (b ∷ bs) h = absurd (omega arith)

-- no name starts with another byte
pub no_name : (w : List ℕ) → 0 < length w → class_number (get_or w 0 0) < 8 → is_name w ≡ false
no_name [] h l = refl
no_name (b ∷ bs) h l =
    let letter : class_number b ≡ 9 → ⊥ = λ e. omega arith in
    let digit : class_number b ≡ 8 → ⊥ = λ e. omega arith in
    simp (ne_eqb (class_number b) 9 letter, ne_eqb (class_number b) 8 digit)

pub name_by_end : (w : List ℕ) → 0 < length w → 8 ≤ class_number (get_or w 0 0) → eqb (token_at w 0).next.at (length w) ≡ is_name w
name_by_end [] h l = absurd (omega arith)
name_by_end (b ∷ bs) h l = by_class (eqb (class_number b) 9) refl
  where
    by_class : (t : Bool) → eqb (class_number b) 9 ≡ t → eqb (token_at (b ∷ bs) 0).next.at (suc (length bs)) ≡ is_name (b ∷ bs)
    by_class true e =
        let k : class_number b ≡ 9 = eqb-true _ _ e in
        ap (λ (n : ℕ). eqb n (suc (length bs))) (ends_word b bs k)
        ∙ eqb_suc (span in_word bs) (length bs)
        ∙ span-every in_word bs
        ∙ sym (word-is b bs k)
    by_class false e =
        let n : class_number b ≡ 9 → ⊥ = eqb-false _ _ e in
        let most : class_number b ≤ 9 = class_most b in
        let k : class_number b ≡ 8 = omega arith in
        ap (λ (n : ℕ). eqb n (suc (length bs))) (ends_number b bs k) ∙ eqb_suc (number_rest bs) (length bs) ∙ sym (number_is b bs k)
