-- All statements as numbers, statement by statement: the numbers of the one at an index, as Statement gives them, stand behind those of the
-- earlier ones and behind their number.
use Rattle.std.specs.Prelude.{ℕ, suc, ◌+◌, ◌<◌, List, ◌∷◌, ◌≡◌, length, take, drop}
use Rattle.reading.specs.Answer.{accepted}
use Rattle.numbers_statement.specs.Answers.{numbering}

-- the numbers of the statement at an index, and where they start
pub record Piece (limit : ℕ) (text ns : List ℕ) (start : ℕ → ℕ) (i : ℕ) : Type 0 where
  pub numbers : List ℕ
  pub same : numbering limit text i ≡ accepted numbers
  pub here : take (suc (length numbers)) (drop (start i) ns) ≡ length numbers ∷ numbers
  pub next : start (suc i) ≡ start i + suc (length numbers)

-- the numbers of all of so many statements
pub record Pieces (limit : ℕ) (text ns : List ℕ) (n : ℕ) : Type 0 where
  pub start : ℕ → ℕ
  pub first : start 0 ≡ 0
  pub last : start n ≡ length ns
  pub piece : (i : ℕ) → i < n → Piece limit text ns start i
