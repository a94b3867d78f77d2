-- `print_parts::put_symbol` meets its contract: the `@`, and then the name.
-- Assumes nothing.
use mathlib.Core.List.{[]}
use Rattle.read_forms.specs.Items.{name_in}
use Rattle.print_writing.proofs.Going.{going, further, no_more, room-first}
use Rattle.print_parts.proofs.put_symbol.Goals as goal

pub put_name-requires : goal.put_name-requires
put_name-requires c =
    let n = name_in c.args.text.now c.args.name in
    (c.requires.0, room-first n.spelling [] c.requires.1 (further (going _ _ _) c.put-next.ensures))

pub returns : goal.returns
returns c =
    no_more (further (further (going _ _ _) c.put-next.ensures) c.put_name.ensures)
