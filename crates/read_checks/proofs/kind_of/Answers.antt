-- `read_checks::kind_of` meets its contract. Assumes nothing.
use borrow.Author.Tests.{eq-eqb, ne_eqb}
use Rattle.read_checks.proofs.kind_of.Goals as goal

pub returns-then-kind-eq-NUMBER : goal.returns-then-kind-eq-NUMBER
returns-then-kind-eq-NUMBER c = simp (eq-eqb _ _ c.if-kind-eq-NUMBER.true)

pub returns : goal.returns
returns c = simp (ne_eqb _ _ c.if-kind-eq-NUMBER.false)
