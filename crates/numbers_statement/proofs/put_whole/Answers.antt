-- `numbers_statement::put_whole` meets its contract: the numbers are counted, compared with the room, and written. Assumes nothing.
use mathlib.Core.Path.{sym}
use lib.Seq.{length-take-le}
use Rattle.numbers_statement.specs.Entries.{taken_in}
use Rattle.numbers_statement.proofs.Whole.{too_short, long_enough}
use borrow.Author.Rules.{rules}
use Rattle.numbers_statement.proofs.put_whole.Goals as goal

pub slice_bounds-put_parts-end : goal.slice_bounds-put_parts-end
slice_bounds-put_parts-end c = search rules

pub slice_bounds-put_parts-end-2 : goal.slice_bounds-put_parts-end-2
slice_bounds-put_parts-end-2 c =
    sym (length-take-le _ c.args.out.now (search rules))

pub returns-then-room-size : goal.returns-then-room-size
returns-then-room-size c =
    let a = c.args in
    too_short a.out.now (taken_in a.text.now a.parts) _ c.put_parts-size.result c.put_parts-size.ensures c.if-room-size.true

pub returns : goal.returns
returns c =
    let a = c.args in
    long_enough a.out.now (taken_in a.text.now a.parts) _ c.put_parts-size.result c.put_parts-size.ensures _ _ c.if-room-size.false
    c.put_parts.ensures
