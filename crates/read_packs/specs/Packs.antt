-- A list of modes in one number: groups of 4 bits, the first mode in the lowest, each its place and 1. 0 ends the list.
use Rattle.std.specs.Prelude.{ℕ, zero, suc, ◌-◌, ◌/◌, ◌%◌, ◌^◌, ◌<◌, cond, List, [], ◌∷◌, ◌++◌, eqb, length, ◌≡◌}
use Rattle.text.specs.Bytes.{member_of}

-- the places, in at most so many groups
unfoldable pub unpack : ℕ → ℕ → List ℕ
unpack zero n = []
unpack (suc k) n = cond (eqb (n % 16) 0) [] ((n % 16 - 1) ∷ unpack k (n / 16))

-- a 32-bit number has 8 groups
unfoldable pub places : ℕ → List ℕ
places n = unpack 8 n

-- one mode more, unless it stands there already
abbrev pub with_mode : List ℕ → ℕ → List ℕ
with_mode ms m = cond (member_of ms m) ms (ms ++ m ∷ [])

-- nothing stands behind the end
abbrev pub Snug : ℕ → Type 0
Snug n = n < 16 ^ length (places n)

-- What one mode more makes of a number.
pub record Joined (n m r : ℕ) : Type 0 where
  pub all : places r ≡ with_mode (places n) m
  pub snug : Snug r
