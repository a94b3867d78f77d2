-- What the loop keeps, and what it counts down.
use Prim.Native.Nat.{ℕ, ◌-◌, ◌≤◌}
use mathlib.Core.Path.{◌≡◌}
use mathlib.Core.List.{List}
use lib.ListN.{length}
use Rattle.reading.specs.Read.{between}
use Rattle.read_statements.specs.Answers.{reading_at}
use Rattle.read_statements.proofs.first_token.Given as goal

pub record Gone (s : List ℕ) (o cur : ℕ) : Type 0 where
  pub same : (limit n : ℕ) → reading_at limit s n between o ≡ reading_at limit s n between cur
  pub ahead : o ≤ cur

abbrev pub invariant-loop-token : goal.invariant-loop-token
invariant-loop-token l = Gone l.text l.initial.from.at l.from.at

abbrev pub decreases-loop-token : goal.decreases-loop-token
decreases-loop-token l = length l.text - l.from.at
