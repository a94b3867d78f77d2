-- What printed words and numbers are: a count's digits are one number, which is no N, and a word is no number.
-- Assumes nothing.
use Prim.Native.Nat.{ℕ, zero, suc, ◌+◌, ◌≤◌, ◌<◌}
use native.Mathlib.Omega.{arith}
use mathlib.Core.Path.{◌≡◌, refl}
use mathlib.Core.Bool.{Bool, true, false, not, false≢true, ◌||◌}
use mathlib.Core.List.{List, [], ◌∷◌}
use borrow.Author.Tests.{eqb-false, eq-eqb, not-true}
use lib.Dec.{eqb}
use lib.ListN.{length}
use lib.Seq.{drop-length}
use Rattle.text.specs.Bytes.{bytes, member_of, every}
use Rattle.tokens.specs.Class.{class_of, count_up}
use Rattle.tokens.specs.Lex.{in_number, fraction, number_rest}
use Rattle.tokens.specs.Spelling.{is_number}
use Rattle.text.proofs.Tests.{and_left, and_right}
use Rattle.text.proofs.Lists.{every_member}
use Rattle.text.proofs.Passing.{span-every}
use Rattle.counts.specs.Count.{is_digit, whole}
use Rattle.counts.specs.Decimal.{digits_of}
use Rattle.counts.proofs.Digits.{is_digit_bounds}
use Rattle.counts.proofs.Decimal.{whole-digits_of}
use Rattle.labels.specs.Word.{lower, same_word}

-- a number of a run of numbers is one of them
in_run : (low n b : ℕ) → low ≤ b → b < low + n → member_of (count_up low n) b ≡ true
in_run low zero b h k = absurd (omega arith)
in_run low (suc n) b h k = go (eqb b low) refl (λ l. in_run (suc low) n b l (omega arith))
  where
    go :
        (t : Bool)
        → eqb b low ≡ t
        → (low < b → member_of (count_up (suc low) n) b ≡ true)
        → (t || member_of (count_up (suc low) n) b) ≡ true
    go true e f = refl
    go false e f = let d = eqb-false b low e in f (omega arith)

-- what holds of the ten digits holds of each
each-digit : (q : ℕ → Bool) (b : ℕ) → every q (count_up 48 10) ≡ true → is_digit b ≡ true → q b ≡ true
each-digit q b e h =
    let k = is_digit_bounds b h in
    every_member q (count_up 48 10) b e (in_run 48 10 b k.0 (omega arith))

digit_class : (b : ℕ) → is_digit b ≡ true → in_number b ≡ true
unfolding class_of
digit_class b h = each-digit in_number b refl h

digits_run : (ds : List ℕ) → every is_digit ds ≡ true → every in_number ds ≡ true
digits_run [] h = refl
digits_run (d ∷ ds) h =
    simp (digit_class d (and_left (is_digit d) (every is_digit ds) h), digits_run ds (and_right (is_digit d) (every is_digit ds) h))

-- Digits alone are one number.
whole-number : (ds : List ℕ) → whole ds ≡ true → is_number ds ≡ true
unfolding number_rest fraction
whole-number [] h = absurd (false≢true h)
whole-number (d ∷ ds) h =
    let run = span-every in_number ds (digits_run ds (and_right (is_digit d) (every is_digit ds) h)) in
    let sum : length ds + 0 ≡ length ds = omega arith in
    simp (digit_class d (and_left (is_digit d) (every is_digit ds) h), run, drop-length, sum) (eq-eqb (length ds) (length ds) refl)

pub digits_number : (v : ℕ) → is_number (digits_of v) ≡ true
digits_number v = whole-number (digits_of v) (whole-digits_of v)

-- A count is no N.
whole_no_n : (ds : List ℕ) → whole ds ≡ true → same_word ds (bytes "N") ≡ false
unfolding same_word
whole_no_n [] h = absurd (false≢true h)
whole_no_n (d ∷ ds) h =
    simp (not-true (eqb (lower d) 110) (each-digit (λ b. not (eqb (lower b) 110)) d refl (and_left (is_digit d) (every is_digit ds) h)))

pub digits_no_n : (v : ℕ) → same_word (digits_of v) (bytes "N") ≡ false
digits_no_n v = whole_no_n (digits_of v) (whole-digits_of v)
