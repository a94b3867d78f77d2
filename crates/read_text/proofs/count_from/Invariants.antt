-- What the loop keeps, and what it counts down.
use Prim.Native.Nat.{ℕ, ◌-◌, ◌≤◌}
use mathlib.Core.Path.{◌≡◌}
use mathlib.Core.List.{List}
use lib.ListN.{length}
use Rattle.reading.specs.Read.{between}
use Rattle.read_statements.specs.Answers.{reading_at}
use Rattle.reading.specs.Calls.{counted}
use Rattle.read_text.proofs.count_from.Given as goal

pub record Gone (s : List ℕ) (limit n cur : ℕ) : Type 0 where
  pub same : counted 0 (reading_at limit s 0 between 0) ≡ counted n (reading_at limit s n between cur)
  pub few : n ≤ cur

abbrev pub invariant-loop-read : goal.invariant-loop-read
invariant-loop-read l = Gone l.text l.limit l.count l.cur.at

abbrev pub decreases-loop-read : goal.decreases-loop-read
decreases-loop-read l = length l.text - l.cur.at
