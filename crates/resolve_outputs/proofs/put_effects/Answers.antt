-- `resolve_outputs::put_effects` meets its contract: so many effects stand there, and the others are as they were.
-- Assumes nothing.
use Prim.Native.Nat.{ℕ, ◌≤◌}
use mathlib.Core.Path.{◌≡◌}
use mathlib.Core.List.{List, ◌++◌, map, map-map}
use lib.ListN.{take, drop}
use Rattle.resolving.specs.Call.{effect_numbers}
use Rattle.resolve_merging.specs.Packing.{effect_of}
use Rattle.resolve_outputs.proofs.Filling.{Filled, filled_next, filled_all}
use Rattle.resolve_outputs.proofs.put_effects.Invariants.{entry}
use Rattle.resolve_outputs.proofs.put_effects.Goals as goal

-- all of them, as the numbers of effects
effects-all :
    {run : List ℕ} {before now : List (List ℕ)} {count i : ℕ}
    → Filled entry run before count i now
    → count ≤ i
    → now ≡ map effect_numbers (map effect_of (take count run)) ++ drop count before
effects-all {run} {count = count} g h = rw (map-map effect_numbers effect_of (take count run)) (filled_all g h)

pub loop-i-preserved : goal.loop-i-preserved
loop-i-preserved c =
    filled_next c.loop-i.invariant 0 c.loop-i-test.true c.effect_numbers.ensures

pub returns : goal.returns
returns c = effects-all c.loop-i.invariant c.loop-i-test.false
