-- What may stand right after a token: bytes that are not read with it.
use Rattle.std.specs.Prelude.{ℕ, Bool, true, false, not, ◌&&◌, ◌||◌, List, [], ◌∷◌}
use Rattle.tokens.specs.Class.{is_a, dot}
use Rattle.tokens.specs.Token.{Shape, word, number, mark}
use Rattle.tokens.specs.Lex.{in_word, in_number}

-- the text's first byte passes a test
abbrev pub starts_with : (ℕ → Bool) → List ℕ → Bool
starts_with p [] = false
starts_with p (b ∷ bs) = p b

-- a number would go on with the text: with a digit, or with a point that a digit follows
abbrev pub more_number : List ℕ → Bool
more_number [] = false
more_number (b ∷ bs) = in_number b || is_a dot b && starts_with in_number bs

-- the text may stand right after a token of the shape
abbrev pub may_follow : Shape → List ℕ → Bool
may_follow (word w) rest = not (starts_with in_word rest)
may_follow (number w) rest = not (more_number rest)
may_follow (mark m) rest = true
