-- docs/CALLS.md, The program `ground`: "a note a line, `statement INDEX, line LINE: dropped, for ..: STATEMENT`, and last, where some effect is
-- additive, that it is". Document 01: "Empty parameters or covariates drop a COVARIATE, empty parameters an IIV or IOV, fewer than two a
-- COVARIANCE. A note is (reason, statement index): 0 dropped; 1, last and once, some merged effect is additive, index 0."
use Rattle.std.specs.Prelude.{ℕ, cond, List, [], ◌++◌, eqb}
use Rattle.text.specs.Bytes.{bytes}
use Rattle.text.specs.Lists.{gather}
use Rattle.counts.specs.Decimal.{digits_of}
use Rattle.labels.specs.Word.{same_word}
use Rattle.resolving.specs.Resolve.{Note}
use Rattle.lines.specs.Stretches.{Stretch, stretch_at, word_at, part, line_at}

-- why a statement is dropped, by its keyword
unfoldable pub reason_for : List ℕ → List ℕ
reason_for k =
    cond (same_word k (bytes "COVARIATE")) (bytes "dropped, for its parameters or its covariates stand for nothing in this model: ")
    (cond (same_word k (bytes "COVARIANCE")) (bytes "dropped, for it has fewer than two parameters in this model: ")
    (bytes "dropped, for its parameters stand for nothing in this model: "))

-- `statement INDEX, line LINE: `
unfoldable pub index_words : List ℕ → ℕ → ℕ → List ℕ
index_words text i start =
    bytes "statement " ++ (digits_of i ++ (bytes ", line " ++ (digits_of (line_at text start) ++ bytes ": ")))

-- which statement it is, why it is dropped, and the statement as it is written
unfoldable pub dropped_line : List ℕ → ℕ → Stretch → List ℕ
dropped_line text i s =
    index_words text i s.start ++ (reason_for (word_at text s.start) ++ (part text s.start s.end ++ bytes "\n"))

unfoldable pub additive_line : List ℕ
additive_line = bytes "some effects are additive (+): each adds to its parameter and is null where its coefficient is 0\n"

unfoldable pub note_line : List ℕ → Note → List ℕ
note_line text n = cond (eqb n.reason 0) (dropped_line text n.index (stretch_at text n.index)) additive_line

-- a note a line, each behind a word: on standard output behind none
unfoldable pub note_lines_behind : List ℕ → List ℕ → List Note → List ℕ
note_lines_behind w text ns = gather (λ n. w ++ note_line text n) ns

abbrev pub note_lines : List ℕ → List Note → List ℕ
note_lines text ns = note_lines_behind [] text ns
