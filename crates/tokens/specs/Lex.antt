-- Document 01, Reading: "The whole text is split into tokens before any statement". The tokens are those of `lex` (000).
use Rattle.std.specs.Prelude.{ℕ, zero, suc, ◌+◌, Bool, cond, not, ◌&&◌, ◌||◌, List, [], ◌∷◌, take, drop}
use Rattle.text.specs.Bytes.{span}
use Rattle.tokens.specs.Class.{Class, newline, semicolon, mark, dot, blank, hash, other, hyphen, digit, letter, class_of, is_a}
use Rattle.tokens.specs.Token.{Shape, Tokens, finish, bad, ◌▸◌, separator, range}
use Rattle.tokens.specs.Token as token

-- a byte that a word goes on with; a digit; a byte that a comment goes on with
abbrev pub in_word : ℕ → Bool
in_word b = is_a letter b || is_a digit b || is_a hyphen b

abbrev pub in_number : ℕ → Bool
in_number b = is_a digit b

abbrev pub in_comment : ℕ → Bool
in_comment b = not (is_a newline b)

-- What stands at a byte: something to skip, a token, or nothing that may stand there. The number says how many more bytes it takes.
pub data Front : Type 0 where
  skip : ℕ → Front
  taken : Shape → ℕ → Front
  wrong : Front

-- a point that a digit follows belongs to the number, with all the digits after it
unfoldable pub fraction : List ℕ → ℕ
fraction [] = 0
fraction (p ∷ []) = 0
fraction (p ∷ d ∷ ds) = cond (is_a dot p && is_a digit d) (2 + span in_number ds) 0

-- how many bytes a number has after its first digit
unfoldable pub number_rest : List ℕ → ℕ
number_rest bs = span in_number bs + fraction (drop (span in_number bs) bs)

-- one point alone starts no token
unfoldable pub dots : List ℕ → Front
dots [] = wrong
dots (b ∷ bs) = cond (is_a dot b) (taken range 1) wrong

unfoldable pub front_of : Class → ℕ → List ℕ → Front
front_of newline b bs = taken separator 0
front_of semicolon b bs = taken separator 0
front_of mark b bs = taken (token.mark b) 0
front_of dot b bs = dots bs
front_of blank b bs = skip 0
front_of hash b bs = skip (span in_comment bs)
front_of other b bs = wrong
front_of hyphen b bs = wrong
front_of digit b bs = taken (token.number (b ∷ take (number_rest bs) bs)) (number_rest bs)
front_of letter b bs = taken (token.word (b ∷ take (span in_word bs) bs)) (span in_word bs)

-- what is at an offset, with what comes after as many more bytes
unfoldable pub follow : Front → ℕ → (ℕ → Tokens) → Tokens
follow (skip k) o rest = rest k
follow (taken s k) o rest = record { place = o; shape = s } ▸ rest k
follow wrong o rest = bad o

-- The tokens of a text whose first byte stands at an offset, after as many bytes as are still to be passed.
unfoldable pub tokens_after : ℕ → ℕ → List ℕ → Tokens
tokens_after k o [] = finish
tokens_after zero o (b ∷ bs) = follow (front_of (class_of b) b bs) o (λ k. tokens_after k (suc o) bs)
tokens_after (suc k) o (b ∷ bs) = tokens_after k (suc o) bs

-- the tokens of a text whose first byte stands at an offset
abbrev pub tokens_at : ℕ → List ℕ → Tokens
tokens_at o s = tokens_after 0 o s

-- the tokens of a whole text
abbrev pub tokens : List ℕ → Tokens
tokens s = tokens_at 0 s
