-- What the loop keeps.
use Rattle.read_forms.specs.Forms.{count_for}
use Rattle.read_lists.proofs.Filling.{Gone}
use Rattle.read_lists.proofs.counts_of.Given as goal

abbrev pub invariant-loop-n : goal.invariant-loop-n
invariant-loop-n l = Gone count_for l.text l.fn.items l.counts l.n l.cur.at
