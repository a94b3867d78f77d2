-- `read_parts::parts_of` meets its contract: a LET, or a feature. Assumes nothing.
use Rattle.read_parts.specs.Apart.{apart}
use Rattle.read_parts.proofs.parts_of.Goals as goal

pub returns-in-Let : goal.returns-in-Let
unfolding apart
returns-in-Let c = rw c.in-Let.is c.two.ensures

pub returns-in-Feature : goal.returns-in-Feature
unfolding apart
returns-in-Feature c = rw c.in-Feature.is c.feature_parts.ensures
