-- `resolve_merging::with_flag` meets its contract: a flag that is not there is put in by its bit, which then adds nothing to another.
-- Assumes nothing.
use borrow.Author.Rules.{rules}
use mathlib.Core.Path.{sym, ◌∙◌}
use Rattle.resolve_merging.proofs.FlagLaws.{bit_of, flag_fits}
use Rattle.resolve_merging.proofs.with_flag.Goals as goal

pub returns-then-has_flag : goal.returns-then-has_flag
returns-then-has_flag c = rw (sym c.has_flag.ensures ∙ c.if-has_flag.true)

pub overflow_add-result : goal.overflow_add-result
overflow_add-result c =
    let a = c.args in
    let low = c.requires in
    let new = sym c.has_flag.ensures ∙ c.if-has_flag.false in
    record { fits = rw (bit_of a.k low) (flag_fits a.set a.k (search rules) low new) }

pub returns : goal.returns
returns c =
    let a = c.args in
    rw (sym c.has_flag.ensures ∙ c.if-has_flag.false, bit_of a.k c.requires)
