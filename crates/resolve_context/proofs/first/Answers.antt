-- `resolve_context::first` meets its contract. The invariant: none of the entries so far passes. Assumes nothing.
use mathlib.Core.Path.{sym, ◌∙◌, ap}
use native.Mathlib.Omega.{arith}
use Rattle.resolve_context.specs.Lists.{names_in}
use Rattle.resolve_context.proofs.Pairs.{names-length}
use Rattle.resolve_context.proofs.Places.{passed-found, passed-more, passed-all}
use Rattle.resolve_context.proofs.first.Goals as goal

pub returns-then-test : goal.returns-then-test
returns-then-test g c = λ p h.
    let a = c.args in
    sym (passed-found p (names_in a.block.now a.lists.now a.names) c.loop-i.i
    (omega (arith, names-length a.block.now a.lists.now a.names, c.loop-i-test.true)) (c.loop-i.invariant p h)
    (ap p (sym c.name_at.ensures) ∙ sym (h _ _ c.test.ensures) ∙ c.if-test.true))

pub loop-i-preserved : goal.loop-i-preserved
loop-i-preserved g c = λ p h.
    let a = c.args in
    passed-more p (names_in a.block.now a.lists.now a.names) c.loop-i.i
    (omega (arith, names-length a.block.now a.lists.now a.names, c.loop-i-test.true)) (c.loop-i.invariant p h)
    (ap p (sym c.name_at.ensures) ∙ sym (h _ _ c.test.ensures) ∙ c.if-test.false)

pub returns : goal.returns
returns g c = λ p h.
    let a = c.args in
    sym (passed-all p (names_in a.block.now a.lists.now a.names) c.loop-i.i
    (omega (arith, names-length a.block.now a.lists.now a.names, c.loop-i-test.false)) (c.loop-i.invariant p h))
