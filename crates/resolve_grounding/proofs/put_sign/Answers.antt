-- `resolve_grounding::put_sign` meets its contract: nothing, or `,` and `+`.
-- Assumes nothing.
use Rattle.text.specs.Bytes.{bytes}
use Rattle.print_writing.proofs.Writing.{nothing_written, room-same}
use Rattle.print_writing.proofs.Going.{going, further, finished, room-left, room-first}
use Rattle.resolve_grounding.proofs.Groups.{no_sign, plus-sign}
use Rattle.resolve_grounding.proofs.put_sign.Goals as goal

pub returns-then-operator-eq0 : goal.returns-then-operator-eq0
returns-then-operator-eq0 c = rw (no_sign _ c.if-operator-eq0.true) (nothing_written _ _)

pub put-plus-requires : goal.put-plus-requires
put-plus-requires c =
    room-first (bytes ",") (bytes "+") (room-same c.args.at (plus-sign _ c.if-operator-eq0.false) c.requires) (going c.args.out.now _ _)

pub put-requires : goal.put-requires
put-requires c =
    room-left {left = bytes "+"} (room-same c.args.at (plus-sign _ c.if-operator-eq0.false) c.requires) (further (going _ _ _) c.put-plus.ensures)

pub returns : goal.returns
returns c =
    rw (plus-sign _ c.if-operator-eq0.false) (finished (further (going _ _ _) c.put-plus.ensures) c.put.ensures)
