-- What the loop keeps, and what it counts down.
use Rattle.std.specs.Prelude.{Option}
use Prim.Native.Nat.{ℕ, ◌-◌, ◌≤◌}
use mathlib.Core.List.{List}
use lib.ListN.{length}
use Rattle.reading.specs.Read.{between}
use Rattle.read_forms.specs.declared.Statement.{Statement}
use Rattle.read_forms.specs.Forms.{some_in, statement_in}
use Rattle.read_statements.specs.Answers.{reading_at}
use Rattle.read_text.proofs.Indexes.{Sought}
use Rattle.read_text.proofs.nth.Given as goal

pub record Gone (s : List ℕ) (limit index n cur : ℕ) (kept : Option Statement) : Type 0 where
  pub sought : Sought index n (some_in (statement_in s) kept) (reading_at limit s 0 between 0) (reading_at limit s n between cur)
  pub few : n ≤ cur

abbrev pub invariant-loop-next : goal.invariant-loop-next
invariant-loop-next l = Gone l.text l.limit l.index l.n l.cur.at l.kept

abbrev pub decreases-loop-next : goal.decreases-loop-next
decreases-loop-next l = length l.text - l.cur.at
