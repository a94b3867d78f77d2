-- Document 01, Reading: "The whole text is split into tokens before any statement, so a bad character wins over an earlier fault." And
-- Faults, 1, 3 and 11: a text of at most 16,384 bytes and 256 statements. And document 02, P1: "Reading .. take a count ceiling from 0 to
-- 256, and every count is held to that in place of 64." (Where a count is read: Argument.antt.)
use Rattle.std.specs.Prelude.{ℕ, suc, Bool, false, cond, List, [], ◌∷◌, leb, ltb, length, Option, Some, None}
use Rattle.text.specs.Bytes.{is}
use Rattle.tokens.specs.Token.{Shape, word, number, mark, Tokens, finish, bad, ◌▸◌}
use Rattle.tokens.specs.Lex.{tokens}
use Rattle.tokens.specs.Next.{scanned}
use Rattle.reading.specs.Statement.{Statement}
use Rattle.reading.specs.Answer.{Answer, accepted, refused, too_high, too_long, bad_byte, unexpected, too_many}
use Rattle.reading.specs.Syntax.{State, Step, more, made, stop, opened, turn}

abbrev pub is_separator : Shape → Bool
is_separator (word w) = false
is_separator (number w) = false
is_separator (mark m) = is ";" m

-- Where a token stands: where a statement may start, where one has just ended, or inside one.
pub data Where : Type 0 where
  between ended : Where
  inside : State → Where

abbrev pub prepend : Statement → Answer (List Statement) → Answer (List Statement)
prepend s (accepted ss) = accepted (s ∷ ss)
prepend s (refused k p) = refused k p

-- what a step leads to: reading on inside the statement, or after it
abbrev pub onward : Step → (State → Answer (List Statement)) → Answer (List Statement) → Answer (List Statement)
onward (more s) f g = f s
onward (made s) f g = prepend s g
onward (stop k p) f g = refused k p

-- The statements of the tokens of a text of so many bytes, under a limit for counts, after so many statements. "Any token but a separator
-- after 256 statements" is refused by 11, "never 3". (A first token makes no whole statement, so what stands for that case is never read.)
unfoldable pub read_from : ℕ → ℕ → ℕ → Where → Tokens → Answer (List Statement)
read_from limit size n between finish = accepted []
read_from limit size n ended finish = accepted []
read_from limit size n (inside s) finish = unexpected size
read_from limit size n w (bad o) = bad_byte o
read_from limit size n between (t ▸ ts) =
    let passed = read_from limit size n between ts in
    let begun = onward (opened t.place t.shape) (λ s. read_from limit size n (inside s) ts) passed in
    cond (is_separator t.shape) passed (cond (leb 256 n) (too_many t.place) begun)
read_from limit size n ended (t ▸ ts) =
    let passed = read_from limit size n between ts in
    cond (is_separator t.shape) passed (cond (leb 256 n) (too_many t.place) (unexpected t.place))
read_from limit size n (inside s) (t ▸ ts) =
    let after = read_from limit size (suc n) ended ts in
    onward (turn limit s t.place t.shape) (λ s'. read_from limit size n (inside s') ts) after

abbrev pub read_scanned : ℕ → ℕ → Tokens → Option ℕ → Answer (List Statement)
read_scanned limit size ts None = read_from limit size 0 between ts
read_scanned limit size ts (Some o) = bad_byte o

-- The statements of a text, under a ceiling for counts. "A ceiling above 256 is number 21, before 1."
unfoldable pub read_text : ℕ → List ℕ → Answer (List Statement)
read_text ceiling text =
    cond (ltb 256 ceiling) too_high
    (cond (ltb 16384 (length text)) too_long
    (read_scanned ceiling (length text) (tokens text) (scanned (tokens text))))
