-- Document 01, The calls offered: "Count: a text gives its number of statements. Statement: a text and an index give that statement by value". And
-- Faults, 20: "statement index not below the count", at the index. The limit is the ceiling for counts.
use Rattle.std.specs.Prelude.{ℕ, ◌+◌, List, length}
use Rattle.std.proofs.Math.Option.{Option, some, none}
use Rattle.std.proofs.Math.ListN.{get_elem?}
use Rattle.reading.specs.Statement.{Statement}
use Rattle.reading.specs.Answer.{Answer, accepted, refused}
use Rattle.reading.specs.Read.{read_text}

-- how many statements there are, after so many
abbrev pub counted : ℕ → Answer (List Statement) → Answer ℕ
counted n (accepted ss) = accepted (n + length ss)
counted n (refused k p) = refused k p

-- the statement at an index; 20 where there are not so many
abbrev pub chosen : ℕ → Option Statement → Answer Statement
chosen i none = refused 20 i
chosen i (some s) = accepted s

abbrev pub nth_of : ℕ → Answer (List Statement) → Answer Statement
nth_of i (accepted ss) = chosen i (get_elem? ss i)
nth_of i (refused k p) = refused k p

-- What the calls answer, for every text and index.
abbrev pub counting : ℕ → List ℕ → Answer ℕ
counting limit text = counted 0 (read_text limit text)

abbrev pub stating : ℕ → List ℕ → ℕ → Answer Statement
stating limit text index = nth_of index (read_text limit text)
