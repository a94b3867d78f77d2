-- What a scan looks for: an explicit term; a mandatory one; one that is explicit and of a pair, with the pair's number and 4,096; one with an effect;
-- one that forces a term's pair and is of an earlier statement.
use Rattle.std.specs.Prelude.{ℕ}

pub data Sought : Type 0 where
  Explicit : Sought
  Mandatory : Sought
  ExplicitOf : ℕ → Sought
  Effect : ℕ → Sought
  ForcesBefore : ℕ → Sought
