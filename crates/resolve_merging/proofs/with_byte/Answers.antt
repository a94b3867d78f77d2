-- `resolve_merging::with_byte` meets its contract: the byte's place is free, so it adds nothing to another.
-- Assumes nothing.
use borrow.Author.Rules.{rules}
use Rattle.resolve_merging.proofs.FlagLaws.{byte_of, byte_fits}
use Rattle.resolve_merging.proofs.with_byte.Goals as goal

pub overflow_add-result : goal.overflow_add-result
overflow_add-result c =
    let a = c.args in
    let p = c.requires in
    record { fits = rw (byte_of a.bytes a.k a.x p.0 p.1) (byte_fits a.bytes a.k a.x p.0 p.1 (search rules) p.2) }

pub returns : goal.returns
returns c = let a = c.args in rw (byte_of a.bytes a.k a.x c.requires.0 c.requires.1)
