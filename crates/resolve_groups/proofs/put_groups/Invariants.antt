-- What the loop keeps.
use Prim.Native.Nat.{◌+◌}
use mathlib.Core.List.{map}
use lib.ListN.{take}
use Rattle.canonical.specs.Lines.{rest_of}
use Rattle.resolving.specs.Ground.{ground_effects}
use Rattle.resolving.specs.Handed.{handed_context}
use Rattle.print_writing.proofs.Going.{Going}
use Rattle.resolve_merging.specs.Packing.{effect_of}
use Rattle.resolve_groups.proofs.Groups.{left_from}
use Rattle.resolve_groups.proofs.put_groups.Given as goal

abbrev pub invariant-loop-j : goal.invariant-loop-j
invariant-loop-j l =
    Going l.initial.out l.at (rest_of l.before (ground_effects (handed_context l.block l.lists) (map effect_of (take l.count l.work)))) l.out l.next
    (left_from (handed_context l.block l.lists) (map effect_of (take l.count l.work)) (l.before + l.j) l.j)
