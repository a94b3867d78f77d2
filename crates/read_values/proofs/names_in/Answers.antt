-- `read_values::names_in` meets its contract: names, values, or what has neither. Assumes nothing.
use borrow.Enum.Refused.{opened}
use mathlib.Core.Path.{◌∙◌}
use Rattle.read_values.proofs.Others.{no_names}
use Rattle.read_values.proofs.names_in.Goals as goal

pub returns-in_default : goal.returns-in_default
returns-in_default c = c.no_items.ensures ∙ no_names c.args.part (opened c.in_default.in_default-own.keys3)
