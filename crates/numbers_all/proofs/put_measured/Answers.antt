-- `numbers_all::put_measured` meets its contract: the numbers are counted, compared with the room, and written. Assumes nothing.
use mathlib.Core.Path.{sym}
use lib.Seq.{length-take-le}
use Rattle.canonical.specs.Numbers.{all_numbers_of}
use Rattle.read_space.specs.Space.{statements_in}
use Rattle.numbers_statement.proofs.Whole.{too_short, long_enough}
use borrow.Author.Rules.{rules}
use Rattle.numbers_all.proofs.put_measured.Goals as goal

pub slice_bounds-put_space-end : goal.slice_bounds-put_space-end
slice_bounds-put_space-end c = search rules

pub slice_bounds-put_space-end-2 : goal.slice_bounds-put_space-end-2
slice_bounds-put_space-end-2 c =
    sym (length-take-le _ c.args.out.now (search rules))

pub returns-then-room-size : goal.returns-then-room-size
returns-then-room-size c =
    let a = c.args in
    let ns = all_numbers_of (statements_in a.text.now a.space) in
    too_short a.out.now ns _ c.put_space-size.result c.put_space-size.ensures c.if-room-size.true

pub returns : goal.returns
returns c =
    let a = c.args in
    let ns = all_numbers_of (statements_in a.text.now a.space) in
    long_enough a.out.now ns _ c.put_space-size.result c.put_space-size.ensures _ _ c.if-room-size.false c.put_space.ensures
