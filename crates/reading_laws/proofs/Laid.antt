-- The tokens of a text stand in it, one behind the other.
-- Assumes nothing.
use Prim.Native.Nat.{ℕ, zero, suc, ◌+◌, ◌<◌, ◌≤◌}
use native.Mathlib.Numerals.{add-one}
use native.Mathlib.Nat.{le_refl}
use native.Mathlib.Omega.{arith}
use mathlib.Core.Path.{◌≡◌, refl, ◌∙◌, ap, sym}
use mathlib.Core.Bool.{Bool, true, false, cond}
use mathlib.Core.List.{List, [], ◌∷◌}
use lib.ListN.{length, take, drop, length-drop}
use lib.Seq.{length-take-le, drop-drop}
use Rattle.tokens.specs.Class.{Class, newline, semicolon, mark, dot, blank, hash, other, hyphen, digit, letter, class_of, is_a}
use Rattle.tokens.specs.Token.{Shape, width, Tokens, range}
use Rattle.tokens.specs.Token as shapes
use Rattle.tokens.specs.Lex.{Front, skip, taken, wrong, in_word, number_rest, dots, front_of, follow, tokens_after, tokens}
use Rattle.text.specs.Bytes.{span}
use Rattle.tokens.proofs.Classes.{mark_no_point}
use Rattle.tokens.proofs.Runs.{span-most}
use Rattle.tokens.proofs.Numbers.{number-most}
use Rattle.reading_laws.specs.Laid.{SpelledAt, Laid, finished, strayed, laid}

-- what is taken at a byte: as many bytes as the token has, which a word and a number are
abbrev Bytes : ℕ → List ℕ → ℕ → Shape → Type 0
Bytes b bs k (shapes.word w) = w ≡ b ∷ take k bs
Bytes b bs k (shapes.number w) = w ≡ b ∷ take k bs
Bytes b bs k (shapes.mark m) = Unit {0}

abbrev Taking : ℕ → List ℕ → Front → Type 0
Taking b bs (skip k) = Unit {0}
Taking b bs (taken x k) = (width x ≡ suc k) × (k ≤ length bs) × Bytes b bs k x
Taking b bs wrong = Unit {0}

dots_taking : (b : ℕ) (bs : List ℕ) → Taking b bs (dots bs)
unfolding dots
dots_taking b [] = tt
dots_taking b (d ∷ ds) = go (is_a dot d)
  where
    go : (t : Bool) → Taking b (d ∷ ds) (cond t (taken range 1) wrong)
    go true = (refl, omega arith, tt)
    go false = tt

front_taking : (c : Class) (b : ℕ) (bs : List ℕ) → class_of b ≡ c → Taking b bs (front_of c b bs)
unfolding front_of
front_taking newline b bs e = (refl, omega arith, tt)
front_taking semicolon b bs e = (refl, omega arith, tt)
front_taking mark b bs e = (simp (mark_no_point b e), omega arith, tt)
front_taking dot b bs e = dots_taking b bs
front_taking blank b bs e = tt
front_taking hash b bs e = tt
front_taking other b bs e = tt
front_taking hyphen b bs e = tt
front_taking digit b bs e = (ap suc (length-take-le (number_rest bs) bs (number-most bs)), number-most bs, refl)
front_taking letter b bs e = (ap suc (length-take-le (span in_word bs) bs (span-most in_word bs)), span-most in_word bs, refl)

-- from an earlier offset on
laid_sooner : {text : List ℕ} {o p : ℕ} {ts : Tokens} → p ≤ o → Laid text o ts → Laid text p ts
laid_sooner h finished = finished
laid_sooner h (strayed l) = strayed l
laid_sooner {p} h (laid {p = q} l n w s r) = let k : p ≤ q = omega arith in laid k n w s r

module _ (text : List ℕ) (o : ℕ) {b : ℕ} {bs : List ℕ} (e : drop o text ≡ b ∷ bs) where
  -- the bytes from the next offset on
  next-bytes : drop (suc o) text ≡ bs
  next-bytes = rw (← add-one o) (sym (drop-drop 1 o text) ∙ ap (drop 1) e)

  spelled-here : (x : Shape) (k : ℕ) → width x ≡ suc k → Bytes b bs k x → SpelledAt text o x
  spelled-here (shapes.word w) k h f = simp (e, h) (sym f)
  spelled-here (shapes.number w) k h f = simp (e, h) (sym f)
  spelled-here (shapes.mark m) k h f = tt

  follow-laid :
      (f : Front) (g : ℕ → Tokens) → Taking b bs f → ((k : ℕ) → Laid text (suc o + k) (g k)) → Laid text o (follow f o g)
  unfolding follow
  follow-laid (skip k) g w h = laid_sooner (omega arith) (h k)
  follow-laid (taken x k) g w h =
      let rest : Laid text (o + width x) (g k) = laid_sooner (omega (arith, w.0)) (h k) in
      let some : 0 < width x = omega (arith, w.0) in
      let within : o + width x ≤ length text = omega (arith, w.0, w.1, ap length e, length-drop o text) in
      laid (le_refl o) some within (spelled-here x k w.0 w.2) rest
  follow-laid wrong g w h = strayed {p = o} (omega (arith, ap length e, length-drop o text))

after_laid : (text : List ℕ) (k o : ℕ) (l : List ℕ) → drop o text ≡ l → Laid text (o + k) (tokens_after k o l)
unfolding tokens_after
after_laid text k o [] e = finished
after_laid text zero o (b ∷ bs) e =
    laid_sooner (omega arith)
    (follow-laid text o e (front_of (class_of b) b bs) (λ k. tokens_after k (suc o) bs) (front_taking (class_of b) b bs refl)
    λ k. after_laid text k (suc o) bs (next-bytes text o e))
after_laid text (suc k) o (b ∷ bs) e = laid_sooner (omega arith) (after_laid text k (suc o) bs (next-bytes text o e))

-- The tokens of a text stand in it.
pub tokens-laid : (text : List ℕ) → Laid text 0 (tokens text)
tokens-laid text = after_laid text 0 0 text refl
