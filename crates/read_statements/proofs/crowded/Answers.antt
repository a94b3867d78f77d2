-- `read_statements::crowded` meets its contract. Assumes nothing.
use borrow.Author.Tests.{eq-eqb, ne_eqb, le-leb, lt-leb}
use Rattle.read_statements.proofs.crowded.Goals as goal

pub returns-then-token-eq-BAD : goal.returns-then-token-eq-BAD
returns-then-token-eq-BAD c = simp (eq-eqb _ 2 c.if-token-eq-BAD.true)

pub returns-then-n-ge256 : goal.returns-then-n-ge256
returns-then-n-ge256 c = simp (ne_eqb _ 2 c.if-token-eq-BAD.false, le-leb 256 _ c.if-n-ge256.true)

pub returns : goal.returns
returns c = simp (ne_eqb _ 2 c.if-token-eq-BAD.false, lt-leb 256 _ c.if-n-ge256.false)
