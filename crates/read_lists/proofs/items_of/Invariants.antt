-- What the loop keeps.
use Rattle.read_lists.specs.Lists.{item_for}
use Rattle.read_lists.proofs.Filling.{Gone}
use Rattle.read_lists.proofs.items_of.Given as goal

abbrev pub invariant-loop-i : goal.invariant-loop-i
invariant-loop-i l = Gone item_for l.text l.fn.items l.all l.i l.cur.at
