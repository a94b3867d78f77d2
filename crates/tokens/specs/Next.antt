-- The answers of the lexer's functions, as values of the definition of tokens.
use Rattle.std.specs.Prelude.{ℕ, ◌+◌, ◌<◌, ◌≤◌, false, List, ◌≡◌, length, drop, get_or, Option, Some, None}
use Rattle.tokens.specs.Class.{dot, blank, hash, number as number_of, class_number, class_between}
use Rattle.tokens.specs.Lex.{tokens_at}
use Rattle.tokens.specs.declared
use Rattle.tokens.specs.declared.Cursor.{Cursor}
use Rattle.tokens.specs.declared.Lexed.{Lexed}
use Rattle.tokens.specs.declared.Lexed.TheVariants.{Word, Number, Mark, Bad, End}
use Rattle.tokens.specs.Token.{Shape, word, number, mark, width, Tokens, finish, bad, ◌▸◌}

abbrev pub cursor : ℕ → Cursor
cursor o = record { at = o }

-- a token with the cursor after it
unfoldable pub lexed_as : ℕ → Shape → Lexed
lexed_as o (word w) = Word o (cursor (o + width (word w)))
lexed_as o (number w) = Number o (cursor (o + width (number w)))
lexed_as o (mark m) = Mark m o (cursor (o + width (mark m)))

-- the first token, the byte that is none, or the end
unfoldable pub first : Tokens → Lexed
first finish = End
first (bad o) = Bad o
first (t ▸ ts) = lexed_as t.place t.shape

-- the same, by the number of its kind: 0 a word, 1 a number, 2 a byte that starts none, 3 the text's end; a mark's is its byte
unfoldable pub by_kind : ℕ → Lexed → declared.Token.Token
by_kind size (Word o c) = record { kind = 0; start = o; next = c }
by_kind size (Number o c) = record { kind = 1; start = o; next = c }
by_kind size (Mark m o c) = record { kind = m; start = o; next = c }
by_kind size (Bad o) = record { kind = 2; start = o; next = cursor o }
by_kind size End = record { kind = 3; start = size; next = cursor size }

abbrev pub token_at : List ℕ → ℕ → declared.Token.Token
token_at s o = by_kind (length s) (first (tokens_at o (drop o s)))

-- whether every byte of the text is in order, or which is the first that starts no token
unfoldable pub scanned : Tokens → Option ℕ
scanned finish = None
scanned (bad o) = Some o
scanned (t ▸ ts) = scanned ts

-- What the lexer's own functions know of a text and an offset in it.

-- a blank or a comment stands at the offset, with its class's number
pub record Skippable (s : List ℕ) (o class : ℕ) : Type 0 where
  pub inside : o < length s
  pub class_is : class ≡ class_number (get_or s o 0)
  pub least : number_of blank ≤ class
  pub most : class ≤ number_of hash

-- the first offset's tokens are those from the second on, and there is more of the text behind the first than behind the second
pub record Passed (s : List ℕ) (o r : ℕ) : Type 0 where
  pub same : tokens_at o (drop o s) ≡ tokens_at r (drop r s)
  pub further : o < r
  pub within : r ≤ length s

-- the first offset's tokens are those from the second on, where a token stands, or a byte that starts none, or the text's end
pub record Skipped (s : List ℕ) (o r : ℕ) : Type 0 where
  pub same : tokens_at o (drop o s) ≡ tokens_at r (drop r s)
  pub stands : r < length s → class_between (number_of blank) (number_of hash) (get_or s r 0) ≡ false

-- a scan from the first offset finds what one from the second finds, and the second lies in the text where it is further on
pub record ScansOn (s : List ℕ) (o r : ℕ) : Type 0 where
  pub same : scanned (tokens_at o (drop o s)) ≡ scanned (tokens_at r (drop r s))
  pub within : o < r → r ≤ length s

-- a point stands at the offset
pub record PointAt (s : List ℕ) (o : ℕ) : Type 0 where
  pub inside : o < length s
  pub is_point : class_number (get_or s o 0) ≡ number_of dot
