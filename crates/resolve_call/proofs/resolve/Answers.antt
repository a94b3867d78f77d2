-- `resolve_call::resolve` meets its contract. Assumes nothing.
use Rattle.resolve_call.proofs.resolve.Goals as goal

pub returns : goal.returns
returns c = c.resolve_under.ensures
