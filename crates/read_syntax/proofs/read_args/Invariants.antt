-- What the loop keeps, and what it counts down.
use Prim.Native.Nat.{ℕ, ◌-◌, ◌≤◌}
use mathlib.Core.Path.{◌≡◌}
use mathlib.Core.Bool.{true}
use mathlib.Core.List.{List, []}
use lib.ListN.{length}
use Rattle.reading.specs.Statement.{Name}
use Rattle.reading.specs.Argument as argument
use Rattle.reading.specs.Syntax as syntax
use Rattle.read_forms.specs.declared.Args.{Args}
use Rattle.read_forms.specs.Fits.{AllFit}
use Rattle.read_arguments.specs.Answers.{read_in}
use Rattle.read_syntax.specs.declared.Head.{Head}
use Rattle.read_syntax.specs.Answers.{call_of, takes_one}
use Rattle.read_syntax.proofs.Held.{args_of, Holds}
use Rattle.read_syntax.proofs.read_args.Given as goal

pub record Gone (s : List ℕ) (limit o : ℕ) (h : Head) (xs : Args) (cur : ℕ) : Type 0 where
  pub before : List argument.Arg
  pub held : Holds s xs before
  pub alone : takes_one h ≡ true → before ≡ []
  pub same : (k : Name) → read_in limit s (syntax.argument (call_of s k h [])) o ≡ read_in limit s (syntax.argument (call_of s k h before)) cur
  pub fit : AllFit s xs
  pub few : xs.count ≤ cur
  pub past : o ≤ cur

abbrev pub invariant-loop-arg : goal.invariant-loop-arg
invariant-loop-arg l = Gone l.text l.limit l.initial.from.at l.head (args_of l.count l.first l.second l.third l.fourth) l.from.at

abbrev pub decreases-loop-arg : goal.decreases-loop-arg
decreases-loop-arg l = length l.text - l.from.at
