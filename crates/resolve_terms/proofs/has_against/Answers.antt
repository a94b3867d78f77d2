-- `resolve_terms::has_against` meets its contract: of the forms before those that are left none is against the kind.
-- Assumes nothing.
use mathlib.Core.Path.{◌∙◌, sym}
use native.Mathlib.Omega.{arith}
use borrow.Author.Rules.{rules}
use Rattle.read_packs.proofs.Packed.{no_place, next_place}
use Rattle.resolve_terms.proofs.has_against.Goals as goal

pub loop-left-init : goal.loop-left-init
loop-left-init c = search rules

pub overflow_sub-left : goal.overflow_sub-left
overflow_sub-left c = omega (arith, c.loop-left-test.true)

pub returns-then-not-suits : goal.returns-then-not-suits
returns-then-not-suits c =
    sym (c.loop-left.invariant.1 ∙ simp (next_place c.loop-left.left c.loop-left.invariant.0 c.loop-left-test.true, sym c.suits.ensures ∙ c.if-not-suits.true))

pub loop-left-smaller : goal.loop-left-smaller
loop-left-smaller c = omega (arith, c.loop-left-test.true)

pub loop-left-preserved : goal.loop-left-preserved
loop-left-preserved c = (
  omega (arith, c.loop-left.invariant.0),
  c.loop-left.invariant.1 ∙ simp (next_place c.loop-left.left c.loop-left.invariant.0 c.loop-left-test.true, sym c.suits.ensures ∙ c.if-not-suits.false),
)

pub returns : goal.returns
returns c =
    sym (c.loop-left.invariant.1 ∙ simp (no_place c.loop-left.left c.loop-left-test.false))
