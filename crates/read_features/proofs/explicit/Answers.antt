-- `read_features::explicit` meets its contract. Assumes nothing.
use Rattle.reading.specs.Feature.{explicit}
use Rattle.read_forms.specs.Forms.{modes_in}
use Rattle.read_features.proofs.explicit.Goals as goal

pub returns-then-optional : goal.returns-then-optional
unfolding explicit
returns-then-optional c = λ s. rw c.if-optional.true

pub returns-in-Wildcard : goal.returns-in-Wildcard
unfolding modes_in explicit
returns-in-Wildcard c = λ s. rw (c.in-Wildcard.is, c.if-optional.false, c.place_of.ensures s)

pub returns-in-List : goal.returns-in-List
unfolding modes_in explicit
returns-in-List c = λ s. rw (c.in-List.is, c.if-optional.false)
