-- So many effects are written, a line each.
use mathlib.Core.List.{map}
use lib.ListN.{take}
use Rattle.resolving.specs.Handed.{handed_context}
use Rattle.print_writing.specs.Written.{Written}
use Rattle.lines.specs.Effects.{effect_lines}
use Rattle.print_lines.specs.Given.{effect_in}
use Rattle.print_lines.proofs.put_effects.Given as goal

abbrev pub invariant-loop-effect : goal.invariant-loop-effect
invariant-loop-effect l = Written l.initial.page 0 (effect_lines (handed_context l.block l.lists) (map effect_in (take l.effect-index l.effects))) l.page l.at
