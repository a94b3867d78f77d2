-- `print_parts::put_range` meets its contract: one end, `..`, and the other end.
-- Assumes nothing.
use mathlib.Core.List.{[], ◌++◌}
use Rattle.text.specs.Bytes.{bytes}
use Rattle.counts.specs.Decimal.{digits_of}
use Rattle.print_writing.proofs.Going.{going, further, no_more, room-first}
use Rattle.print_parts.proofs.put_range.Goals as goal

pub put_number-first-requires : goal.put_number-first-requires
put_number-first-requires c =
    room-first (digits_of c.args.low) (bytes ".." ++ (digits_of c.args.high ++ [])) c.requires (going c.args.out.now _ _)

pub put-second-requires : goal.put-second-requires
put-second-requires c =
    room-first (bytes ".") (bytes "." ++ (digits_of c.args.high ++ [])) c.requires (further (going _ _ _) c.put_number-first.ensures)

pub put-third-requires : goal.put-third-requires
put-third-requires c =
    room-first (bytes ".") (digits_of c.args.high ++ []) c.requires
    (further (further (going _ _ _) c.put_number-first.ensures) c.put-second.ensures)

pub put_number-requires : goal.put_number-requires
put_number-requires c =
    room-first (digits_of c.args.high) [] c.requires
    (further (further (further (going _ _ _) c.put_number-first.ensures) c.put-second.ensures) c.put-third.ensures)

pub returns : goal.returns
returns c =
    no_more
    (further (further (further (further (going _ _ _) c.put_number-first.ensures) c.put-second.ensures) c.put-third.ensures)
    c.put_number.ensures)
