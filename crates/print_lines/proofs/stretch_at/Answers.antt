-- `print_lines::stretch_at` meets its contract. The invariant: the one looked for is the one after as many as are left, from here on; the measure
-- is how many are left. Assumes nothing.
use Prim.Native.Nat.{suc, ◌-◌}
use mathlib.Core.Path.{◌≡◌, ◌∙◌, sym}
use native.Mathlib.Omega.{arith}
use Rattle.print_lines.specs.Given.{stretches_before, ended_by}
use Rattle.print_lines.proofs.Walking.{none_left, this_one, a-later-one, all_of_them}
use Rattle.print_lines.proofs.stretch_at.Goals.{After-closing_from-last}
use Rattle.print_lines.proofs.stretch_at.Goals as goal

-- the statement from its first token to what ends it
from_first :
    (d : After-closing_from-last)
    → stretches_before d.args.text.now d.loop-first.at ≡ ended_by d.args.text.now d.first_from-first.result.start d.closing_from-last.result
from_first d = d.first_from-first.ensures ∙ d.closing_from-last.ensures.by_index d.first_from-first.result.start

pub returns-then-last-ne41 : goal.returns-then-last-ne41
returns-then-last-ne41 c =
    sym (none_left _ _ c.closing_from-last.result _ (from_first (goal.at.returns-then-last-ne41 c).After-closing_from-last) _ c.if-last-ne41.true) ∙ c.loop-first.invariant

pub overflow_add-result : goal.overflow_add-result
overflow_add-result c =
    omega (arith, c.closing_from-last.ensures.start_in_bounds c.if-last-ne41.false, c.requires.1)

pub returns-then-left-eq0 : goal.returns-then-left-eq0
returns-then-left-eq0 c =
    sym (this_one _ _ c.closing_from-last.result _ (from_first (goal.at.returns-then-left-eq0 c).After-closing_from-last) c.if-last-ne41.false) ∙ rw c.if-left-eq0.true at c.loop-first.invariant

pub loop-first-preserved : goal.loop-first-preserved
loop-first-preserved c =
    let n : suc (c.loop-first.left - 1) ≡ c.loop-first.left = omega (arith, c.if-left-eq0.false) in
    sym (a-later-one _ _ c.closing_from-last.result _ (from_first (goal.at.loop-first-preserved c).After-closing_from-last) c.if-last-ne41.false (c.loop-first.left - 1)) ∙ rw n c.loop-first.invariant

pub loop-first-init : goal.loop-first-init
loop-first-init c = all_of_them _ _

pub first_from-first-requires : goal.first_from-first-requires
first_from-first-requires c = c.requires.0

pub closing_from-last-requires : goal.closing_from-last-requires
closing_from-last-requires c = c.requires.0

pub overflow_sub-left : goal.overflow_sub-left
overflow_sub-left c = omega (arith, c.if-left-eq0.false)

pub loop-first-smaller : goal.loop-first-smaller
loop-first-smaller c = omega (arith, c.if-left-eq0.false)
