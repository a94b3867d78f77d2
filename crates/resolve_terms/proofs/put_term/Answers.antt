-- `resolve_terms::put_term` meets its contract: with no room the buffer stays, and with room one number of it is another.
-- Assumes nothing.
use Rattle.print_writing.proofs.Writing.{one-past, one_set}
use Rattle.resolve_terms.proofs.put_term.Goals as goal

pub returns-then-terms-at : goal.returns-then-terms-at
returns-then-terms-at c = one-past c.args.terms.now c.args.at c.args.term c.if-terms-at.true

pub returns : goal.returns
returns c = one_set c.args.terms.now c.args.at c.args.term
