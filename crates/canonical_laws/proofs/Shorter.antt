-- A canonical text is never longer than the text that it is the canonical text of: keywords, names and modes keep their length, and
-- comments, blanks, separators that separate nothing, leading zeros, the brackets around one name or mode, repeated modes and the operator
-- `*` go.
-- Assumes nothing.
use Prim.Native.Nat.{ℕ, ◌+◌, ◌≤◌}
use native.Mathlib.Omega.{arith}
use mathlib.Core.Path.{◌≡◌}
use mathlib.Core.Bool.{true, false≢true}
use mathlib.Core.List.{List}
use lib.ListN.{length}
use Rattle.tokens.specs.Token.{Shape, word, number, mark, width, Tokens}
use Rattle.reading.specs.Statement.{Statement}
use Rattle.reading.specs.Answer.{accepted}
use Rattle.reading.specs.Read.{is_separator, Where, read_text}
use Rattle.reading_laws.specs.Reads.{Reads, over, over_ended, passed, passed_ended, begun, carried, completed}
use Rattle.reading_laws.specs.Laid.{Laid, finished, strayed, laid}
use Rattle.reading_laws.proofs.Laid.{tokens-laid}
use Rattle.reading_laws.proofs.Joining.{text_reads}
use Rattle.reading_laws.proofs.Turning.{leads_more, leads_made}
use Rattle.canonical.specs.Canonical.{text_shapes, canonical}
use Rattle.canonical_laws.specs.Shorter.{token_widths, statement_widths, where_width}
use Rattle.canonical_laws.proofs.ShorterLists.{spelled-length, text_shapes-width}
use Rattle.canonical_laws.proofs.ShorterSteps.{mark_width, opened-within, turn-within}

-- a separator has the byte of the `;` that is printed before the next statement
separator-width : (x : Shape) → is_separator x ≡ true → 1 ≤ width x
separator-width (word w) e = absurd (false≢true e)
separator-width (number w) e = absurd (false≢true e)
separator-width (mark m) e = mark_width m

-- tokens that stand in a text have together no more bytes than are left of it
laid-width : {text : List ℕ} {o : ℕ} {ts : Tokens} → o ≤ length text → Laid text o ts → o + token_widths ts ≤ length text
laid-width h finished = omega arith
laid-width h (strayed l) = omega arith
laid-width h (laid l n w s r) = omega (arith, l, laid-width w r)

-- Statements that tokens are read as are printed with no more bytes than what was read before the tokens and the tokens have.
reads_shorter :
    {limit n : ℕ} {w : Where} {ts : Tokens} {ss : List Statement}
    → Reads limit n w ts ss
    → statement_widths ss ≤ where_width w + token_widths ts
reads_shorter over = omega arith
reads_shorter over_ended = omega arith
reads_shorter (passed {t} p r) = omega (arith, separator-width t.shape p, reads_shorter r)
reads_shorter (passed_ended {t} p r) = omega (arith, separator-width t.shape p, reads_shorter r)
reads_shorter (begun {t} p few e r) = omega (arith, leads_more (opened-within t.place t.shape) e, reads_shorter r)
reads_shorter {limit} (carried {t} {s} e r) = omega (arith, leads_more (turn-within limit s t.place t.shape) e, reads_shorter r)
reads_shorter {limit} (completed {t} {s} e r) = omega (arith, leads_made (turn-within limit s t.place t.shape) e, reads_shorter r)

-- A canonical text is never longer than the text.
pub not_longer :
    (limit : ℕ) (text : List ℕ) (ss : List Statement) → read_text limit text ≡ accepted ss → length (canonical ss) ≤ length text
not_longer limit text ss r =
    omega (
      arith,
      spelled-length (text_shapes ss),
      text_shapes-width ss,
      reads_shorter (text_reads limit text ss r),
      laid-width (omega arith) (tokens-laid text),
    )
