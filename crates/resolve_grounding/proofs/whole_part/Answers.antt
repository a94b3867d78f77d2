-- `resolve_grounding::whole_part` meets its contract: modes are made whole, and all else stays.
-- Assumes nothing.
use borrow.Enum.Refused.{opened}
use mathlib.Core.Path.{sym, subst}
use Rattle.read_parts.specs.declared.Part.TheVariants.{Modes}
use Rattle.resolve_grounding.specs.Whole.{WholePart}
use Rattle.resolve_grounding.proofs.Wholes.{modes-whole, others-whole}
use Rattle.resolve_grounding.proofs.whole_part.Goals as goal

pub returns-in-Modes : goal.returns-in-Modes
returns-in-Modes c =
    subst (λ p. WholePart p (Modes c.in-Modes.family c.whole_modes.result)) (sym c.in-Modes.is)
    (modes-whole c.in-Modes.family c.in-Modes.modes c.whole_modes.result c.whole_modes.ensures)

pub returns-in_default : goal.returns-in_default
returns-in_default c = others-whole c.args.part (opened c.in_default.in_default-own.keys2)
