-- `resolve_call::resolve_packed` meets its contract: a working buffer that is too short comes first.
-- Assumes nothing.
use mathlib.Core.Path.{◌∙◌, ap, sym}
use borrow.Author.Rules.{rules}
use Rattle.resolving.specs.Call.{lengths_of}
use Rattle.resolve_settling.specs.Answers.{rooms}
use Rattle.resolve_call.proofs.Calling.{short-call, long-call}
use Rattle.resolve_call.proofs.Packed.{refused-packed, answers_told, answers_packed}
use Rattle.resolve_call.proofs.resolve_packed.Goals as goal

pub returns-then-work-lt-WORKING : goal.returns-then-work-lt-WORKING
returns-then-work-lt-WORKING c =
    let a = c.args in
    let h =
    short-call a.limit a.block.now a.lists.now a.text.now (rooms a.ground.now a.room a.notes.now) a.work.now
    c.if-work-lt-WORKING.true in record { result_value = c.refuse.ensures ∙ sym (ap lengths_of h); packed = refused-packed 19 0 h }

pub shape_of-work : goal.shape_of-work
shape_of-work c = search rules

pub returns : goal.returns
returns c =
    let a = c.args in
    let h =
    long-call a.limit a.block.now a.lists.now a.text.now (rooms a.ground.now a.room a.notes.now) a.work.now
    c.if-work-lt-WORKING.false in record { result_value = answers_told h c.resolve_in.ensures; packed = answers_packed h c.resolve_in.ensures c.if-work-lt-WORKING.false (search rules) }
