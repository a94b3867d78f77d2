-- `print_parts::put_bracketed` meets its contract: `[`, the entries, `]`.
-- Assumes nothing.
use Rattle.text.specs.Bytes.{bytes}
use Rattle.tokens.specs.Spelling.{spell_all}
use Rattle.canonical.specs.Canonical.{entry_shapes}
use Rattle.read_forms.specs.Items.{items_in}
use Rattle.print_writing.proofs.Writing.{room-same}
use Rattle.print_writing.proofs.Going.{going, further, finished, room-left, room-first}
use Rattle.print_parts.specs.Parts.{shapes_as}
use Rattle.print_parts.proofs.Bytes.{spell-bracketed}
use Rattle.print_parts.proofs.put_bracketed.Goals as goal

pub put_entries-last-requires : goal.put_entries-last-requires
put_entries-last-requires g c =
    let xs = shapes_as g.E.Entry.shape (items_in c.args.text.now c.args.items) in
    let r = room-same c.args.at (spell-bracketed xs) c.requires.2 in
    (c.requires.0, c.requires.1, room-first (spell_all (entry_shapes xs)) (bytes "]") r (further (going _ _ _) c.put-first.ensures))

pub put-requires : goal.put-requires
put-requires g c =
    let xs = shapes_as g.E.Entry.shape (items_in c.args.text.now c.args.items) in
    room-left (room-same c.args.at (spell-bracketed xs) c.requires.2)
    (further (further (going _ _ _) c.put-first.ensures) c.put_entries-last.ensures)

pub returns : goal.returns
returns g c =
    let xs = shapes_as g.E.Entry.shape (items_in c.args.text.now c.args.items) in
    rw (spell-bracketed xs)
    (finished (further (further (going _ _ _) c.put-first.ensures) c.put_entries-last.ensures) c.put.ensures)
