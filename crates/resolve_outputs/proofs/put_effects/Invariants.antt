-- What the loop keeps.
use Prim.Native.Nat.{ℕ}
use mathlib.Core.List.{List}
use Rattle.resolving.specs.Call.{effect_numbers}
use Rattle.resolve_merging.specs.Packing.{effect_of}
use Rattle.resolve_outputs.proofs.Filling.{Filled}
use Rattle.resolve_outputs.proofs.put_effects.Given as goal

abbrev pub entry : ℕ → List ℕ
entry w = effect_numbers (effect_of w)

abbrev pub invariant-loop-i : goal.invariant-loop-i
invariant-loop-i l = Filled entry l.work l.initial.effects l.count l.i l.effects
