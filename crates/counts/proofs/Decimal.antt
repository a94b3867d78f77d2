-- A number's decimal digits: they are digits, their value is the number, and no digits of the same value are fewer.
-- Assumes nothing.
use Rattle.std.specs.Prelude.{Some}
use Prim.Native.Nat.{ℕ, zero, suc, ◌+◌, ◌-◌, ◌*◌, ◌/◌, ◌%◌, ◌≤◌, ◌<◌}
use native.Mathlib.Omega.{arith}
use mathlib.Core.Bool.{Bool, true, false, and-eq-true_iff, false≢true}
use mathlib.Core.List.{List, [], ◌∷◌, ◌++◌}
use mathlib.Core.Logic.{◌⊎◌, inl, inr, ⊎_elim}
use mathlib.Core.Path.{◌≡◌, refl, sym, ◌∙◌, ap}
use lib.Dec.{ltb}
use lib.ListN.{length, length-append}
use borrow.Author.Tests.{lt-ltb, le-ltb, le-leb, ltb-true, ltb-false}
use Rattle.text.specs.Bytes.{every}
use Rattle.counts.specs.Count.{is_digit, whole, value_after, value, count_of}
use Rattle.counts.specs.Decimal.{digit_for, digits_in, digits_of}
use Rattle.counts.proofs.Digits.{is_digit_bounds, value_after_snoc, whole_snoc}

lt-or_ge : (a b : ℕ) → (a < b) ⊎ (b ≤ a)
lt-or_ge a b = by (ltb a b) refl
  where
    by : (t : Bool) → ltb a b ≡ t → (a < b) ⊎ (b ≤ a)
    by true t = inl (ltb-true a b t)
    by false t = inr (ltb-false a b t)

-- the definition's two cases, while steps are left
digits_in-small : (steps n : ℕ) → n < 10 → digits_in steps n ≡ digit_for n ∷ []
unfolding digits_in
digits_in-small zero n h = refl
digits_in-small (suc steps) n h = rw (lt-ltb n 10 h)

digits_in-more : (steps n : ℕ) → 10 ≤ n → digits_in (suc steps) n ≡ digits_in steps (n / 10) ++ digit_for (n % 10) ∷ []
unfolding digits_in
digits_in-more steps n h = rw (le-ltb n 10 h)

-- any two numbers of steps that are enough give the same digits
digits_in_enough : (j k n : ℕ) → n ≤ j → n ≤ k → digits_in j n ≡ digits_in k n
digits_in_enough zero k n h l = digits_in-small zero n (omega arith) ∙ sym (digits_in-small k n (omega arith))
digits_in_enough (suc j) zero n h l = digits_in-small (suc j) n (omega arith) ∙ sym (digits_in-small zero n (omega arith))
digits_in_enough (suc j) (suc k) n h l =
    ⊎_elim
    (λ small. digits_in-small (suc j) n small ∙ sym (digits_in-small (suc k) n small))
    (λ large. rw (digits_in-more j n large, digits_in-more k n large, digits_in_enough j k (n / 10) (omega arith) (omega arith)))
    (lt-or_ge n 10)

-- the two cases with no steps in sight: all that a printer needs of the definition
pub digits_of-small : (n : ℕ) → n < 10 → digits_of n ≡ digit_for n ∷ []
unfolding digits_of
digits_of-small n h = digits_in-small n n h

pub digits_of-more : (n : ℕ) → 10 ≤ n → digits_of n ≡ digits_of (n / 10) ++ digit_for (n % 10) ∷ []
unfolding digits_of
digits_of-more zero h = absurd (omega arith)
digits_of-more (suc m) h = digits_in-more m (suc m) h ∙ rw (digits_in_enough m (suc m / 10) (suc m / 10) (omega arith) (omega arith))

-- induction over a number's digits: what holds below ten, and of a number where it holds of its tens, holds of every number
module _ (P : ℕ → Type 0) (small : (n : ℕ) → n < 10 → P n) (more : (n : ℕ) → 10 ≤ n → P (n / 10) → P n) where
  by_digits_in : (steps n : ℕ) → n ≤ steps → P n
  by_digits_in zero n h = small n (omega arith)
  by_digits_in (suc steps) n h =
      ⊎_elim (small n) (λ large. more n large (by_digits_in steps (n / 10) (omega arith))) (lt-or_ge n 10)

  pub by_digits : (n : ℕ) → P n
  by_digits n = by_digits_in n n (omega arith)

pub is_digit-digit_for : (n : ℕ) → n < 10 → is_digit (digit_for n) ≡ true
is_digit-digit_for n h =
    let low : 48 ≤ digit_for n = omega arith in
    let high : digit_for n ≤ 57 = omega arith in
    rw (le-leb 48 (digit_for n) low, le-leb (digit_for n) 57 high)

pub value-digits_of : (n : ℕ) → value (digits_of n) ≡ n
value-digits_of =
    by_digits
    (λ n. value (digits_of n) ≡ n)
    (λ n h. rw (digits_of-small n h) (omega arith))
    (λ n h tens. rw (digits_of-more n h, value_after_snoc, tens) (omega arith))

pub whole-digits_of : (n : ℕ) → whole (digits_of n) ≡ true
whole-digits_of =
    by_digits
    (λ n. whole (digits_of n) ≡ true)
    (λ n h. rw (digits_of-small n h, is_digit-digit_for n h))
    (λ n h tens.
    rw (digits_of-more n h)
    (whole_snoc (digits_of (n / 10)) (digit_for (n % 10)) tens (is_digit-digit_for (n % 10) (omega arith))))

-- a count that is printed is read again as itself
pub count_of-digits_of : (limit n : ℕ) → n ≤ limit → n ≤ 4294967295 → count_of limit (digits_of n) ≡ Some n
unfolding count_of
count_of-digits_of limit n h l = rw (whole-digits_of n, value-digits_of n, le-leb n 4294967295 l, le-leb n limit h)

-- a digit more in a number is a digit more in its text, or none where the number was 0
length-digits_of_step : (n e : ℕ) → e < 10 → length (digits_of (n * 10 + e)) ≤ length (digits_of n) + 1
length-digits_of_step n e h =
    ⊎_elim
    (λ small. rw (digits_of-small (n * 10 + e) small) (omega arith))
    (λ large. rw (digits_of-more (n * 10 + e) large, length-append, tens) (omega arith))
    (lt-or_ge (n * 10 + e) 10)
  where
    tens : (n * 10 + e) / 10 ≡ n
    tens = omega arith

length-digits_of-value_after : (n : ℕ) (ds : List ℕ) → every is_digit ds ≡ true
    → length (digits_of (value_after n ds)) ≤ length (digits_of n) + length ds
length-digits_of-value_after n [] h = omega arith
length-digits_of-value_after n (d ∷ ds) h =
    let t = (and-eq-true_iff (is_digit d) (every is_digit ds)).0 h in
    let step = length-digits_of_step n (d - 48) (omega (arith, is_digit_bounds d t.0)) in
    omega (arith, length-digits_of-value_after (n * 10 + (d - 48)) ds t.1)

-- digits without leading zeros are no more than any digits of the same value
pub length-digits_of-value : (ds : List ℕ) → whole ds ≡ true → length (digits_of (value ds)) ≤ length ds
length-digits_of-value [] h = absurd (false≢true h)
length-digits_of-value (d ∷ ds) h =
    let t = (and-eq-true_iff (is_digit d) (every is_digit ds)).0 h in
    let first = digits_of-small (0 * 10 + (d - 48)) (omega (arith, is_digit_bounds d t.0)) in
    omega (arith, length-digits_of-value_after (0 * 10 + (d - 48)) ds t.1, ap length first)
