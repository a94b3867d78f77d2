-- `numbers_statement::put_entries` meets its contract. The invariant: what is left to be written are the entries that are left.
-- Assumes nothing.
use mathlib.Core.Path.{◌≡◌, ap}
use native.Mathlib.Omega.{arith}
use Rattle.read_forms.specs.Items.{tokens_from, entries, items_in}
use Rattle.read_forms.proofs.Entries.{first-listed}
use Rattle.read_forms.proofs.Lists.{items_are}
use Rattle.print_writing.proofs.Going.{going, as_long}
use Rattle.numbers_statement.specs.Entries.{entries_numbers}
use Rattle.numbers_statement.proofs.Pieces.{ready_same}
use Rattle.numbers_statement.proofs.Entries.{none_left, entry_ready, entry-put}
use Rattle.numbers_statement.proofs.put_entries.Goals.{Start}
use Rattle.numbers_statement.proofs.put_entries.Goals as goal

-- the list's entries are read from its start
list :
    (a : Start)
    → entries_numbers a.args.entry (items_in a.args.text.now a.args.items)
    ≡ entries_numbers a.args.entry (entries a.args.items.count (tokens_from a.args.text.now a.args.items.first.at))
list a = ap (entries_numbers a.args.entry) (items_are a.args.text.now a.args.items a.requires.1)

pub loop-left-init : goal.loop-left-init
loop-left-init c = record { entered = c.requires.1.are; under_way = going _ _ _ }

pub entry_at-here-requires : goal.entry_at-here-requires
entry_at-here-requires c = (c.requires.0, first-listed 1 _ _ c.loop-left.invariant.entered c.loop-left-test.true)

pub put_entry-next-requires : goal.put_entry-next-requires
put_entry-next-requires c =
    (c.entry_at-here.ensures.inside, entry_ready c.loop-left.invariant c.loop-left-test.true c.entry_at-here.ensures (ready_same (list (goal.at.put_entry-next-requires c).Start) c.requires.2))

pub loop-left-preserved : goal.loop-left-preserved
loop-left-preserved c =
    rw c.after_entry-cur.ensures
    (entry-put c.loop-left.invariant c.loop-left-test.true c.entry_at-here.ensures c.put_entry-next.ensures)

pub shape_of-out : goal.shape_of-out
shape_of-out c = as_long c.loop-left.invariant.under_way

pub returns : goal.returns
returns c = rw (list (goal.at.returns c).Start) (none_left c.loop-left.invariant (omega arith))
