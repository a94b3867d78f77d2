-- `resolve_context::check` meets its contract: the answer is by `stands`. Assumes nothing.
use mathlib.Core.Path.{sym, ap, ◌∙◌}
use Rattle.std.specs.Prelude as prelude
use Rattle.resolve_context.proofs.Meaning.{is_context, is-wrong, handed-heads_fit}
use Rattle.resolve_context.proofs.check.Goals as goal

pub read_layout-requires : goal.read_layout-requires
read_layout-requires c =
    let a = c.args in
    handed-heads_fit a.block.now a.lists.now (sym c.stands.ensures ∙ c.if-stands.true)

pub returns-then-stands : goal.returns-then-stands
returns-then-stands c =
    let a = c.args in
    ap prelude.Some c.read_layout.ensures
    ∙ sym (is_context a.block.now a.lists.now (sym c.stands.ensures ∙ c.if-stands.true))

pub returns : goal.returns
returns c =
    let a = c.args in
    sym (is-wrong a.block.now a.lists.now (sym c.stands.ensures ∙ c.if-stands.false))
