-- Document 01, Faults, 4: "count not a whole 32-bit number, or above 64". The limit is a parameter.
use Rattle.std.specs.Prelude.{ℕ, ◌+◌, ◌-◌, ◌*◌, Bool, false, cond, ◌&&◌, List, [], ◌∷◌, leb, Option, Some, None}
use Prim.Native.Char.{code}
use Rattle.text.specs.Bytes.{between, every}

abbrev pub is_digit : ℕ → Bool
is_digit b = between "0" "9" b

-- one digit or more, and nothing else
abbrev pub whole : List ℕ → Bool
whole [] = false
whole (d ∷ ds) = every is_digit (d ∷ ds)

-- the number that digits stand for after a number that stands before them
abbrev pub value_after : ℕ → List ℕ → ℕ
value_after n [] = n
value_after n (d ∷ ds) = value_after (n * 10 + (d - code "0")) ds

abbrev pub value : List ℕ → ℕ
value ds = value_after 0 ds

abbrev pub is_count : ℕ → List ℕ → Bool
is_count limit ds = whole ds && leb (value ds) 4294967295 && leb (value ds) limit

-- a number's text as a count under a limit
unfoldable pub count_of : ℕ → List ℕ → Option ℕ
count_of limit ds = cond (is_count limit ds) (Some (value ds)) None
