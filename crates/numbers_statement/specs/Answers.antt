-- What the call answers: how many numbers were written, or why none were.
use Rattle.std.specs.Prelude.{ℕ, List}
use Rattle.reading.specs.Statement.{Statement}
use Rattle.reading.specs.Answer.{Answer, accepted, refused}
use Rattle.canonical.specs.Numbers.{numbers_of}
use Rattle.reading.specs.Calls.{stating}

-- a statement's numbers, or its refusal
abbrev pub numbered : Answer Statement → Answer (List ℕ)
numbered (accepted s) = accepted (numbers_of s)
numbered (refused n p) = refused n p

-- the numbers of the statement of a text at an index, under a limit for counts
abbrev pub numbering : ℕ → List ℕ → ℕ → Answer (List ℕ)
numbering limit text index = numbered (stating limit text index)
