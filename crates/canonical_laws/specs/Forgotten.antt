-- Statements without their places: texts are of the same statements where these are equal. And tokens that all stand at one place.
use Rattle.std.specs.Prelude.{ℕ, ◌≡◌, List, [], ◌∷◌, map}
use Rattle.tokens.specs.Token.{Shape, Tokens, finish, ◌▸◌}
use Rattle.reading.specs.Statement.{Statement}
use Rattle.reading.specs.Answer.{accepted}
use Rattle.reading.specs.Read.{read_text}
use Rattle.reading_laws.specs.Moved.{move_statement}

-- each place is forgotten: it becomes 0
abbrev pub nowhere : ℕ → ℕ
nowhere p = 0

abbrev pub forget : Statement → Statement
forget s = move_statement nowhere s

-- tokens of these shapes, with their places forgotten
abbrev pub flat : List Shape → Tokens
flat [] = finish
flat (x ∷ xs) = record { place = 0; shape = x } ▸ flat xs

-- The text is read as these statements, wherever they stand in it.
pub record ReadAs (limit : ℕ) (text : List ℕ) (ss : List Statement) : Type 0 where
  pub statements : List Statement
  pub read : read_text limit text ≡ accepted statements
  pub same : map forget statements ≡ map forget ss
