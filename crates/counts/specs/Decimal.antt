-- A number's decimal digits as a text, without leading zeros; 0 is "0".
-- Each step divides by ten, so as many steps as the number itself are always enough: the definition is right for every number.
use Rattle.std.specs.Prelude.{ℕ, zero, suc, ◌+◌, ◌/◌, ◌%◌, cond, List, [], ◌∷◌, ◌++◌, ltb}
use Prim.Native.Char.{code}

-- the digit of a number below ten
abbrev pub digit_for : ℕ → ℕ
digit_for n = code "0" + n

-- the digits, in at most so many steps: those of the tens, then the last
unfoldable pub digits_in : ℕ → ℕ → List ℕ
digits_in zero n = digit_for n ∷ []
digits_in (suc steps) n =
    let tens = digits_in steps (n / 10) in
    cond (ltb n 10) (digit_for n ∷ []) (tens ++ digit_for (n % 10) ∷ [])

unfoldable pub digits_of : ℕ → List ℕ
digits_of n = digits_in n n
