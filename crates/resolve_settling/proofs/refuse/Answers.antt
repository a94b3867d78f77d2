-- `resolve_settling::refuse` meets its contract. Assumes nothing.
use mathlib.Core.Path.{refl}
use Rattle.resolve_settling.specs.Answers.{resolved_as}
use Rattle.resolve_settling.proofs.refuse.Goals as goal

pub returns : goal.returns
unfolding resolved_as
returns c = refl
