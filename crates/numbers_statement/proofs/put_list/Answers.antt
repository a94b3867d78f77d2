-- `numbers_statement::put_list` meets its contract: the two numbers before the entries, and these. Assumes nothing.
use mathlib.Core.List.{[], ◌∷◌}
use Rattle.read_forms.specs.Items.{items_in}
use Rattle.print_writing.proofs.Going.{going, further, finished}
use Rattle.numbers_statement.specs.Entries.{entries_numbers}
use Rattle.numbers_statement.proofs.Pieces.{ready_left, ready_first}
use Rattle.numbers_statement.proofs.put_list.Goals as goal

pub put_two-next-requires : goal.put_two-next-requires
put_two-next-requires c =
    ready_first (c.args.kind ∷ c.args.items.count ∷ []) (entries_numbers c.args.entry (items_in c.args.text.now c.args.items)) c.requires.2
    (going c.args.out.now _ _)

pub put_entries-requires : goal.put_entries-requires
put_entries-requires c =
    (c.requires.0, c.requires.1, ready_left c.requires.2 (further (going _ _ _) c.put_two-next.ensures))

pub returns : goal.returns
returns c =
    finished (further (going _ _ _) c.put_two-next.ensures) c.put_entries.ensures
