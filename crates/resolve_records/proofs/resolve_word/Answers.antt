-- `resolve_records::resolve_word` meets its contract: every answer has room in its word. Assumes nothing.
use mathlib.Core.Path.{◌∙◌, ap, sym, subst}
use lib.ListN.{length}
use Rattle.resolve_settling.specs.Answers.{rooms}
use Rattle.resolve_records.specs.Words.{resolved_word, Small}
use Rattle.resolve_records.proofs.Below.{resolved_small}
use Rattle.resolve_records.proofs.resolve_word.Goals as goal

pub resolved_word-requires : goal.resolved_word-requires
resolved_word-requires c =
    let a = c.args in
    subst Small (sym c.resolve_packed-resolved.ensures.result_value)
    (resolved_small a.limit a.block.now a.lists.now a.text.now (rooms a.ground.now a.room a.notes.now) (length a.work.now))

pub returns : goal.returns
returns c =
    let d = c.resolve_packed-resolved.ensures in
    (c.resolved_word.ensures ∙ ap resolved_word d.result_value, d.packed)
