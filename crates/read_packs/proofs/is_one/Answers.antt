-- `read_packs::is_one` meets its contract. Assumes nothing.
use borrow.Author.Rules.{rules}
use borrow.Author.Tests.{eq-eqb}
use Rattle.read_packs.proofs.Packed.{no_one, is_one}
use Rattle.read_packs.proofs.is_one.Goals as goal

pub returns-then-packed-ne0 : goal.returns-then-packed-ne0
returns-then-packed-ne0 c = is_one _ (search rules) c.if-packed-ne0.true

pub returns-else-packed-ne0 : goal.returns-else-packed-ne0
returns-else-packed-ne0 c = rw (eq-eqb _ _ c.if-packed-ne0.false) (no_one _ c.if-packed-ne0.false)
