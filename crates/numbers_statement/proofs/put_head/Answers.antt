-- `numbers_statement::put_head` meets its contract, with a `?` and without.
-- Assumes nothing.
use Rattle.numbers_statement.proofs.put_head.Goals as goal

pub put_two-requires : goal.put_two-requires
put_two-requires c =
    rw c.if-optional.true at c.requires

pub returns-then-optional : goal.returns-then-optional
returns-then-optional c =
    rw c.if-optional.true c.put_two.ensures

pub put_two-requires-2 : goal.put_two-requires-2
put_two-requires-2 c =
    rw c.if-optional.false at c.requires

pub returns : goal.returns
returns c =
    rw c.if-optional.false c.put_two-2.ensures
