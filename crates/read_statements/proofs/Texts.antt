-- What becomes of a text that is admitted, by its bytes and its statements.
-- Assumes nothing.
use Rattle.std.specs.Prelude.{Option, Some, None}
use mathlib.Core.Path.{◌≡◌, ap}
use mathlib.Core.List.{List}
use Prim.Native.Nat.{ℕ}
use borrow.Author.Tests.{le-ltb}
use lib.ListN.{length}
use Rattle.tokens.specs.Lex.{tokens}
use Rattle.tokens.specs.Next.{scanned}
use Rattle.reading.specs.Answer.{bad_byte}
use Rattle.reading.specs.Read.{between, read_scanned, read_text}
use Rattle.reading_laws.specs.Admitted.{Admitted}
use Rattle.read_statements.specs.Answers.{reading_at}

module _ (limit : ℕ) (s : List ℕ) where
  module _ (h : Admitted limit s) where
    by-scan : (x : Option ℕ) → scanned (tokens s) ≡ x → read_text limit s ≡ read_scanned limit (length s) (tokens s) x
    unfolding read_text
    by-scan x e = simp (le-ltb 256 limit h.ceiling, le-ltb 16384 (length s) h.short) (ap (read_scanned limit (length s) (tokens s)) e)

    -- a byte that starts no token comes before everything else
    pub stray-text : (o : ℕ) → scanned (tokens s) ≡ Some o → read_text limit s ≡ bad_byte o
    stray-text o e = by-scan (Some o) e

    pub whole-text : scanned (tokens s) ≡ None → read_text limit s ≡ reading_at limit s 0 between 0
    whole-text e = by-scan None e
