-- `numbers_statement::put_op` meets its contract, variant by variant.
-- Assumes nothing.
use Rattle.numbers_statement.proofs.put_op.Goals as goal

pub put-requires : goal.put-requires
put-requires c =
    rw c.in-Multiply.is at c.requires

pub put-requires-in-Add : goal.put-requires-in-Add
put-requires-in-Add c =
    rw c.in-Add.is at c.requires

pub returns-in-Multiply : goal.returns-in-Multiply
returns-in-Multiply c =
    rw c.in-Multiply.is c.put.ensures

pub returns-in-Add : goal.returns-in-Add
returns-in-Add c =
    rw c.in-Add.is c.put-in-Add.ensures
