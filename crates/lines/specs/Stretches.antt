-- Where the statements of a text that is accepted stand: each from its first token, its keyword, to its `)`, which stands nowhere else in one;
-- and the line of an offset, counted from 1 as an editor does.
use Rattle.std.specs.Prelude.{ℕ, suc, ◌+◌, ◌-◌, Bool, false, cond, List, [], ◌∷◌, length, take, drop, get_or}
use Rattle.text.specs.Bytes.{is}
use Rattle.text.specs.Lists.{keep}
use Rattle.tokens.specs.Token.{Shape, word, number, mark, Token, Tokens, finish, bad, ◌▸◌}
use Rattle.tokens.specs.Lex.{tokens_at, tokens}
use Rattle.reading.specs.Read.{is_separator}

abbrev pub is_closing : Shape → Bool
is_closing (word w) = false
is_closing (number w) = false
is_closing (mark m) = is ")" m

-- from the offset of a first byte to that behind a last
pub record Stretch : Type 0 where
  pub start : ℕ
  pub end : ℕ

abbrev pub stretch : ℕ → ℕ → Stretch
stretch a e = record { start = a; end = e }

-- Where a token stands: before a statement, or in one that starts at an offset.
pub data Standing : Type 0 where
  before : Standing
  within : ℕ → Standing

unfoldable pub stretches_from : Standing → Tokens → List Stretch
stretches_from x finish = []
stretches_from x (bad o) = []
stretches_from before (t ▸ ts) =
    cond (is_separator t.shape) (stretches_from before ts) (stretches_from (within t.place) ts)
stretches_from (within a) (t ▸ ts) =
    cond (is_closing t.shape) (stretch a (t.place + 1) ∷ stretches_from before ts) (stretches_from (within a) ts)

unfoldable pub stretches_of : List ℕ → List Stretch
stretches_of text = stretches_from before (tokens text)

-- the statement at an index; what is none has no bytes
unfoldable pub stretch_at : List ℕ → ℕ → Stretch
stretch_at text i = get_or (stretches_of text) i (stretch 0 0)

-- the word that stands at an offset
abbrev pub word_of : Shape → List ℕ
word_of (word w) = w
word_of (number w) = []
word_of (mark m) = []

abbrev pub word_in : Tokens → List ℕ
word_in finish = []
word_in (bad o) = []
word_in (t ▸ ts) = word_of t.shape

unfoldable pub word_at : List ℕ → ℕ → List ℕ
word_at text o = word_in (tokens_at o (drop o text))

-- the bytes from one offset to another
unfoldable pub part : List ℕ → ℕ → ℕ → List ℕ
part text from to = take (to - from) (drop from text)

-- 1 and the newlines before an offset
unfoldable pub line_at : List ℕ → ℕ → ℕ
line_at text offset = suc (length (keep (is "\n") (take offset text)))
