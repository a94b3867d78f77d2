-- Two texts joined: what Count and Statement answer of them.
use Rattle.std.specs.Prelude.{ℕ, ◌+◌, ◌<◌, List, ◌∷◌, ◌++◌, ◌≡◌, length}
use Rattle.reading.specs.Statement.{Statement}
use Rattle.reading.specs.Answer.{Answer, accepted}
use Rattle.reading_laws.specs.Moved.{move_answer}
use Rattle.reading_laws.specs.Raised.{further, raise_statement}
use Rattle.reading.specs.Calls.{counting, stating}

-- an answer with the places of its names and symbols so many bytes further on
abbrev pub raised : ℕ → Answer Statement → Answer Statement
raised d r = move_answer (further d) (raise_statement d) r

-- Two texts of n and m statements, joined by a newline: Count gives the sum, Statement gives the first's statements and then the second's with
-- the offsets of names and symbols raised by the first's length and one.
pub record Joined (limit : ℕ) (a b : List ℕ) (n m : ℕ) : Type 0 where
  pub count : counting limit (a ++ 10 ∷ b) ≡ accepted (n + m)
  pub first : (i : ℕ) → i < n → stating limit (a ++ 10 ∷ b) i ≡ stating limit a i
  pub second : (i : ℕ) → i < m → stating limit (a ++ 10 ∷ b) (n + i) ≡ raised (length a + 1) (stating limit b i)
