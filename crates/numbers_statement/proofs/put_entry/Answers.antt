-- `numbers_statement::put_entry` meets its contract: an entry lies in the text, so its length is the one that it says. Assumes nothing.
use mathlib.Core.Path.{◌≡◌}
use lib.ListN.{length, take, drop}
use Rattle.read_lists.proofs.Filling.{own-length}
use Rattle.numbers_statement.proofs.put_entry.Goals.{Start}
use Rattle.numbers_statement.proofs.put_entry.Goals as goal

size :
    (a : Start)
    → length (take a.args.here.name.length (drop a.args.here.name.offset a.args.text.now)) ≡ a.args.here.name.length
size a = own-length a.args.text.now a.args.here.name a.requires.0

pub put_two-requires : goal.put_two-requires
put_two-requires c =
    rw (c.in-Pair.is, size (goal.at.put_two-requires c).Start) at c.requires.1

pub put_three-requires : goal.put_three-requires
put_three-requires c =
    rw c.number_of.ensures (rw (c.in-Value.is, size (goal.at.put_three-requires c).Start) at c.requires.1)

pub put-requires : goal.put-requires
put-requires c =
    rw c.count_or_0.ensures (rw c.in-Count.is at c.requires.1)

pub returns-in-Pair : goal.returns-in-Pair
returns-in-Pair c =
    rw (c.in-Pair.is, size (goal.at.returns-in-Pair c).Start) c.put_two.ensures

pub returns-in-Value : goal.returns-in-Value
returns-in-Value c =
    rw (c.in-Value.is, size (goal.at.returns-in-Value c).Start, ← c.number_of.ensures) c.put_three.ensures

pub returns-in-Count : goal.returns-in-Count
returns-in-Count c =
    rw (c.in-Count.is, ← c.count_or_0.ensures) c.put.ensures
