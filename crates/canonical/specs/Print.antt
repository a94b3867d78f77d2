-- Document 01, The calls offered: "Print: a text gives its canonical text." And Faults, 19: "an output shorter than its answer".
use Rattle.std.specs.Prelude.{ℕ, List, ◌++◌, ◌≡◌, ltb, length, drop}
use Rattle.reading.specs.Statement.{Statement}
use Rattle.reading.specs.Answer.{Answer, accepted, refused, refused_if}
use Rattle.reading.specs.Read.{read_text}
use Rattle.canonical.specs.Canonical.{canonical}

abbrev pub printed : Answer (List Statement) → Answer (List ℕ)
printed (accepted ss) = accepted (canonical ss)
printed (refused n p) = refused n p

-- the canonical text of a text, under a limit for counts
unfoldable pub print_text : ℕ → List ℕ → Answer (List ℕ)
print_text limit text = printed (read_text limit text)

-- an answer that an output has room for
abbrev pub fitting : ℕ → Answer (List ℕ) → Answer (List ℕ)
fitting room (accepted bs) = refused_if (ltb room (length bs)) 19 0 (accepted bs)
fitting room (refused n p) = refused n p

-- how long an answer is
abbrev pub length_of : Answer (List ℕ) → Answer ℕ
length_of (accepted bs) = accepted (length bs)
length_of (refused n p) = refused n p

-- "Output past the answer's length is untouched", and all of it when refusing
abbrev pub output : Answer (List ℕ) → List ℕ → List ℕ
output (accepted bs) before = bs ++ drop (length bs) before
output (refused n p) before = before

-- What a call answers that fills an output, and the output afterwards.
pub record Answers (a : Answer (List ℕ)) (before after : List ℕ) (r : Answer ℕ) : Type 0 where
  pub told : r ≡ length_of (fitting (length before) a)
  pub left : after ≡ output (fitting (length before) a) before
