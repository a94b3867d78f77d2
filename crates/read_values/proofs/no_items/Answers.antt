-- `read_values::no_items` meets its contract. Assumes nothing.
use Rattle.read_values.proofs.no_items.Goals as goal

pub returns : goal.returns
returns c = rw c.new.ensures
