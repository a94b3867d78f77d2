-- `resolve_features::is_named` meets its contract.
-- Assumes nothing.
use mathlib.Core.Path.{ap, sym}
use Rattle.read_forms.specs.Forms.{operand_in}
use Rattle.resolving.specs.Brought.{is_explicit}
use Rattle.resolve_features.proofs.is_named.Goals as goal

pub returns-in-Wildcard : goal.returns-in-Wildcard
unfolding operand_in
returns-in-Wildcard c s = sym (ap (λ o. is_explicit (operand_in s o)) c.in-Wildcard.is)

pub returns-in-Symbol : goal.returns-in-Symbol
unfolding operand_in
returns-in-Symbol c s = sym (ap (λ o. is_explicit (operand_in s o)) c.in-Symbol.is)

pub returns-in-Names : goal.returns-in-Names
unfolding operand_in
returns-in-Names c s = sym (ap (λ o. is_explicit (operand_in s o)) c.in-Names.is)
