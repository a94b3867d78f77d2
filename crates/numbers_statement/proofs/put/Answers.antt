-- `numbers_statement::put` meets its contract: the number is one of 32 bits.
-- Assumes nothing.
use native.Mathlib.Omega.{arith}
use Rattle.numbers_statement.proofs.Pieces.{is_small_lem}
use Rattle.numbers_statement.proofs.put.Goals as goal

pub overflow_cast-number : goal.overflow_cast-number
overflow_cast-number c = omega (arith, is_small_lem c.requires)
