-- `print_lines::put_effects` meets its contract. The invariant: so many effects are written, a line each.
-- Assumes nothing.
use mathlib.Core.Path.{refl}
use mathlib.Core.List.{[], map}
use native.Mathlib.Omega.{arith}
use lib.ListN.{take, get_or}
use Rattle.labels.specs.Label.{labels_of}
use Rattle.labels.specs.Table.{label_table}
use Rattle.resolve_context.specs.Lists.{Stands}
use Rattle.resolve_context.proofs.Meaning.{handed-heads_fit}
use Rattle.print_writing.proofs.Writing.{nothing_written, written_on}
use Rattle.lines.specs.Effects.{effect_lines}
use Rattle.print_lines.specs.Given.{effect_in}
use Rattle.print_lines.proofs.Effects.{effect-short, effects-short, one-effect-more, few-effects}
use Rattle.print_lines.proofs.put_effects.Goals.{After-read_layout-layout}
use Rattle.print_lines.proofs.put_effects.Goals as goal

-- the layout is the context's
stands : (y : After-read_layout-layout) → Stands y.args.block.now y.args.lists.now y.read_layout-layout.result
stands y = record { is = y.requires.0; there = y.read_layout-layout.ensures }

pub read_layout-layout-requires : goal.read_layout-layout-requires
read_layout-layout-requires c = handed-heads_fit _ _ c.requires.0

pub loop-effect-init : goal.loop-effect-init
unfolding effect_lines
loop-effect-init c = nothing_written _ _

pub put_effect-at-requires : goal.put_effect-at-requires
unfolding label_table labels_of
put_effect-at-requires c =
    let h = stands (goal.at.put_effect-at-requires c).After-read_layout-layout in
    let i = c.loop-effect.effect-index in
    let t = c.loop-effect-test.true in
    let e = effect-short _ _ _ h (effect_in (get_or c.args.effects.now i [])) in
    let w = few-effects _ i c.args.effects.now (effects-short _ _ _ h (map effect_in (take i c.args.effects.now)))
    (omega (arith, c.requires.1, t)) (omega (arith, t)) in
    (h, refl, omega (arith, c.loop-effect.invariant.next, e, w))

pub loop-effect-preserved : goal.loop-effect-preserved
loop-effect-preserved c =
    rw (one-effect-more _ c.args.effects.now c.loop-effect.effect-index c.loop-effect-test.true)
    (written_on c.loop-effect.invariant c.put_effect-at.ensures)
