-- `read_features::mandatory` meets its contract. Assumes nothing.
use Rattle.read_features.proofs.mandatory.Goals as goal

pub returns-then-optional : goal.returns-then-optional
returns-then-optional c = λ s k e. rw (c.if-optional.true, e)

pub returns : goal.returns
returns c = λ s k e. rw c.if-optional.false
