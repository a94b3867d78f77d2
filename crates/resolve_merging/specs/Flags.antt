-- A set of numbers below 32 in one number, each with its bit; and four numbers below 256 in one.
use Rattle.std.specs.Prelude.{ℕ, ◌+◌, ◌*◌, ◌/◌, ◌%◌, ◌^◌, Bool, cond, eqb}

abbrev pub flagged : ℕ → ℕ → Bool
flagged n k = eqb (n / 2 ^ k % 2) 1

abbrev pub with_flag : ℕ → ℕ → ℕ
with_flag n k = cond (flagged n k) n (n + 2 ^ k)

abbrev pub byte_at : ℕ → ℕ → ℕ
byte_at n k = n / 2 ^ (8 * k) % 256

-- where it is 0
abbrev pub with_byte : ℕ → ℕ → ℕ → ℕ
with_byte n k x = n + x * 2 ^ (8 * k)
