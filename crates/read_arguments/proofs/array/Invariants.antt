-- What the loop keeps, and what it counts down.
use Prim.Native.Nat.{ℕ, ◌-◌, ◌≤◌}
use mathlib.Core.Path.{◌≡◌}
use mathlib.Core.Bool.{true}
use mathlib.Core.List.{List}
use lib.ListN.{length}
use Rattle.reading.specs.Syntax.{Call, array_open, item}
use Rattle.read_forms.specs.Items.{tokens_from, entries, after_entries, listed}
use Rattle.read_arguments.specs.Answers.{read_in}
use Rattle.read_arguments.proofs.array.Given as goal

pub record Gone (s : List ℕ) (p o n cur : ℕ) : Type 0 where
  pub are : listed n (tokens_from s o) ≡ true
  pub behind : after_entries n (tokens_from s o) ≡ tokens_from s cur
  pub few : n ≤ cur
  pub past : o ≤ cur
  pub same : (limit : ℕ) (c : Call) → read_in limit s (array_open c p) o ≡ read_in limit s (item c p (entries n (tokens_from s o))) cur

abbrev pub invariant-loop-c : goal.invariant-loop-c
invariant-loop-c l = Gone l.text l.bracket l.cur.at l.n l.from.at

abbrev pub decreases-loop-c : goal.decreases-loop-c
decreases-loop-c l = length l.text - l.from.at
