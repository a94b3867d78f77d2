-- The tokens of a text (000, `Token`): a word and a number with their bytes, and a mark for each other token.
use Rattle.std.specs.Prelude.{ℕ, ◌+◌, cond, List, length}
use Prim.Native.Char.{code}
use Rattle.text.specs.Bytes.{is}

-- A mark is named by its byte. The mark of `..` is `.`, and that of a separator, a newline too, is `;`.
pub data Shape : Type 0 where
  word : List ℕ → Shape
  number : List ℕ → Shape
  mark : ℕ → Shape

abbrev pub separator : Shape
separator = mark (code ";")

abbrev pub range : Shape
range = mark (code ".")

-- A token and the offset of its first byte.
pub record Token : Type 0 where
  pub place : ℕ
  pub shape : Shape

-- how many bytes a token has in the text
abbrev pub width : Shape → ℕ
width (word w) = length w
width (number w) = length w
width (mark m) = cond (is "." m) 2 1

-- the offset after the token's last byte
abbrev pub past : Token → ℕ
past t = t.place + width t.shape

-- What a text is split into: tokens, and then its end, or the offset of the first byte that starts no token.
pub data Tokens : Type 0 where
  finish : Tokens
  bad : ℕ → Tokens
  ◌▸◌ : Token → Tokens → Tokens

infixr 50 ◌▸◌
