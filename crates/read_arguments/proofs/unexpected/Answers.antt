-- `read_arguments::unexpected` meets its contract. Assumes nothing.
use borrow.Author.Tests.{eq-eqb, ne_eqb}
use Rattle.read_arguments.proofs.unexpected.Goals as goal

pub returns-then-token-eq-BAD : goal.returns-then-token-eq-BAD
returns-then-token-eq-BAD c = simp (eq-eqb _ _ c.if-token-eq-BAD.true)

pub returns : goal.returns
returns c = simp (ne_eqb _ _ c.if-token-eq-BAD.false)
