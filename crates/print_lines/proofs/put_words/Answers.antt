-- `print_lines::put_words` meets its contract: piece after piece, for which a page can always tell the room. Assumes nothing.
use mathlib.Core.List.{◌++◌}
use native.Mathlib.Omega.{arith}
use Rattle.text.specs.Bytes.{bytes}
use Rattle.counts.specs.Decimal.{digits_of}
use Rattle.print_writing.specs.Written.{Room}
use Rattle.print_writing.proofs.Going.{going, further, finished, room-left, room-first}
use Rattle.lines.specs.Line.{refusal_line}
use Rattle.print_lines.proofs.Digits.{refusal_room}
use Rattle.print_lines.proofs.put_words.Goals as goal

pub put_number-b-requires : goal.put_number-b-requires
unfolding refusal_line
put_number-b-requires c =
    room-first (digits_of c.args.number) (bytes " " ++ (digits_of c.args.place ++ bytes "\n")) (refusal_room c.args.number c.args.place (omega (arith, c.ranges.number.fits)) (omega (arith, c.ranges.place.fits)))
    (further (going _ _ _) c.put_all-a.ensures)

pub put-c-requires : goal.put-c-requires
unfolding refusal_line
put-c-requires c =
    room-first (bytes " ") (digits_of c.args.place ++ bytes "\n") (refusal_room c.args.number c.args.place (omega (arith, c.ranges.number.fits)) (omega (arith, c.ranges.place.fits)))
    (further (further (going _ _ _) c.put_all-a.ensures) c.put_number-b.ensures)

pub put_number-d-requires : goal.put_number-d-requires
unfolding refusal_line
put_number-d-requires c =
    room-first (digits_of c.args.place) (bytes "\n") (refusal_room c.args.number c.args.place (omega (arith, c.ranges.number.fits)) (omega (arith, c.ranges.place.fits)))
    (further (further (further (going _ _ _) c.put_all-a.ensures) c.put_number-b.ensures) c.put-c.ensures)

pub put-requires : goal.put-requires
unfolding refusal_line
put-requires c =
    room-left (refusal_room c.args.number c.args.place (omega (arith, c.ranges.number.fits)) (omega (arith, c.ranges.place.fits)))
    (further (further (further (further (going _ _ _) c.put_all-a.ensures) c.put_number-b.ensures) c.put-c.ensures) c.put_number-d.ensures)

pub returns : goal.returns
unfolding refusal_line
returns c =
    finished
    (further (further (further (further (going _ _ _) c.put_all-a.ensures) c.put_number-b.ensures) c.put-c.ensures) c.put_number-d.ensures)
    c.put.ensures
