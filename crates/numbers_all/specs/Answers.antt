-- What is known of statements that were read.
use Rattle.std.specs.Prelude.{ℕ, List, ◌≡◌}
use Rattle.reading.specs.Statement.{Statement}
use Rattle.reading.specs.Answer.{accepted}
use Rattle.reading.specs.Read.{read_text}

-- statements that a text is read as, under some limit for counts
pub record WasRead (s : List ℕ) (ss : List Statement) : Type 0 where
  pub limit : ℕ
  pub read : read_text limit s ≡ accepted ss
