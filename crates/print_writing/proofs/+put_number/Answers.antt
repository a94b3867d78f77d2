-- `print_writing::put_number` meets its contract: a small count is its only digit, and else the tens stand before the last.
-- Assumes nothing.
use Rattle.std.proofs.Common.{arith}
use Rattle.print_writing.proofs.Digits.{one-digit, more_digits, room-digit, room_tens, room-last}
use Rattle.print_writing.proofs.+put_number.Goals as goal

pub put-requires : goal.put-requires
put-requires t c = room-digit _ _ c.if-n-lt10.true c.requires

pub returns-then-n-lt10 : goal.returns-then-n-lt10
returns-then-n-lt10 t c = one-digit _ c.if-n-lt10.true c.put.ensures

pub put_number-next-requires : goal.put_number-next-requires
put_number-next-requires t c =
    let h = c.if-n-lt10.false in
    (omega (arith, c.decreases, h), room_tens _ _ h c.requires)

pub put-requires-2 : goal.put-requires-2
put-requires-2 t c = room-last _ c.if-n-lt10.false c.requires c.put_number-next.ensures

pub returns : goal.returns
returns t c = more_digits _ c.if-n-lt10.false c.put_number-next.ensures c.put-2.ensures
