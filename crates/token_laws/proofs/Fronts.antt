-- What stands at a byte, in a text with more behind it: runs, numbers and tokens are the same where the rest does not go on with them.
-- Assumes nothing.
use mathlib.Core.Path.{◌≡◌, refl, ap}
use mathlib.Core.Bool.{Bool, false, cond, and-false, ◌&&◌}
use mathlib.Core.List.{List, [], ◌∷◌, ◌++◌}
use Prim.Native.Nat.{ℕ, suc, ◌+◌, ◌≤◌}
use native.Mathlib.Omega.{arith}
use lib.ListN.{length, drop}
use lib.Seq.{drop-append-le}
use Rattle.text.specs.Bytes.{span}
use Rattle.tokens.specs.Class.{Class, newline, semicolon, mark, dot, blank, hash, other, hyphen, digit, letter, is_a}
use Rattle.tokens.specs.Lex.{Front, skip, taken, wrong, in_word, in_number, in_comment, fraction, number_rest, front_of}
use Rattle.tokens.proofs.Runs.{span-most}
use Rattle.tokens.proofs.Numbers.{number-most}
use Rattle.tokens.proofs.Steps.{dots_case}
use Rattle.token_laws.specs.Follow.{starts_with, more_number}
use Rattle.text.proofs.Tests.{or_left, or_right}

-- a run ends where a text is followed by a byte that fails the test
pub span-append : (p : ℕ → Bool) (l r : List ℕ) → starts_with p r ≡ false → span p (l ++ r) ≡ span p l
span-append p [] [] e = refl
span-append p [] (x ∷ xs) e = simp e
span-append p (b ∷ bs) r e = ap (λ (n : ℕ). cond (p b) (suc n) 0) (span-append p bs r e)

-- so does a number where what follows would not go on with it
no_digit : (r : List ℕ) → more_number r ≡ false → starts_with in_number r ≡ false
no_digit [] e = refl
no_digit (x ∷ xs) e = or_left (in_number x) _ e

fraction-none : (r : List ℕ) → more_number r ≡ false → fraction r ≡ 0
unfolding fraction
fraction-none [] e = refl
fraction-none (p ∷ []) e = refl
fraction-none (p ∷ d ∷ ds) e = simp (or_right (in_number p) (is_a dot p && is_a digit d) e)

fraction-append : (l r : List ℕ) → more_number r ≡ false → fraction (l ++ r) ≡ fraction l
unfolding fraction
fraction-append [] r e = fraction-none r e
fraction-append (p ∷ []) [] e = refl
fraction-append (p ∷ []) (d ∷ ds) e = simp (no_digit (d ∷ ds) e, and-false)
fraction-append (p ∷ d ∷ ds) r e = simp (span-append in_number ds r (no_digit r e))

pub number_append : (l r : List ℕ) → more_number r ≡ false → number_rest (l ++ r) ≡ number_rest l
unfolding number_rest
number_append l r e =
    simp (span-append in_number l r (no_digit r e), drop-append-le (span in_number l) l r (span-most in_number l))
    (ap (λ (n : ℕ). span in_number l + n) (fraction-append (drop (span in_number l) l) r e))

-- how many more bytes what stands at a byte takes
abbrev pub reach : Front → ℕ
reach (skip k) = k
reach (taken s k) = k
reach wrong = 0

-- and there are as many
pub front_within : (c : Class) (b : ℕ) (bs : List ℕ) → reach (front_of c b bs) ≤ length bs
unfolding front_of
front_within newline b bs = omega arith
front_within semicolon b bs = omega arith
front_within mark b bs = omega arith
front_within dot b bs = dots_case (λ f. reach f ≤ length bs) bs (omega arith) (λ h. h)
front_within blank b bs = omega arith
front_within hash b bs = span-most in_comment bs
front_within other b bs = omega arith
front_within hyphen b bs = omega arith
front_within digit b bs = number-most bs
front_within letter b bs = span-most in_word bs
