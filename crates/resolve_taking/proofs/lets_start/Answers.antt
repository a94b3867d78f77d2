-- `resolve_taking::lets_start` meets its contract. Assumes nothing.
use borrow.Author.Tests.{eq-eqb, ne_eqb}
use Rattle.resolve_taking.proofs.lets_start.Goals as goal

pub returns-then-end-eq0 : goal.returns-then-end-eq0
returns-then-end-eq0 c = simp (eq-eqb _ _ c.if-end-eq0.true)

pub returns : goal.returns
returns c = simp (ne_eqb _ _ c.if-end-eq0.false)
