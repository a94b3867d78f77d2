-- `numbers_statement::put_name` meets its contract: a name lies in the text, so its length is the one that it says. Assumes nothing.
use mathlib.Core.Path.{◌≡◌}
use lib.ListN.{length, take, drop}
use Rattle.read_lists.proofs.Filling.{own-length}
use Rattle.numbers_statement.proofs.put_name.Goals.{Start}
use Rattle.numbers_statement.proofs.put_name.Goals as goal

size :
    (a : Start)
    → length (take a.args.name.length (drop a.args.name.offset a.args.text.now)) ≡ a.args.name.length
size a = own-length a.args.text.now a.args.name a.requires.0

pub put_three-requires : goal.put_three-requires
put_three-requires c = rw (size (goal.at.put_three-requires c).Start) at c.requires.1

pub returns : goal.returns
returns c = rw (size (goal.at.returns c).Start) c.put_three.ensures
