-- `resolve_operands::target_of` meets its contract. Assumes nothing.
use mathlib.Core.Path.{◌∙◌}
use Rattle.resolve_operands.proofs.target_of.Goals as goal

pub returns-then-every : goal.returns-then-every
returns-then-every c = c.covariates.ensures ∙ rw c.if-every.true

pub returns : goal.returns
returns c = rw c.if-every.false
