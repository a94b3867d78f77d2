-- `read_values::counts_in` meets its contract: counts, or what has none. Assumes nothing.
use borrow.Enum.Refused.{opened}
use mathlib.Core.Path.{◌∙◌}
use Rattle.read_values.proofs.Others.{no_counts}
use Rattle.read_values.proofs.counts_in.Goals as goal

pub returns-in_default : goal.returns-in_default
returns-in_default c = c.no_items.ensures ∙ no_counts c.args.part (opened c.in_default.in_default-own.keys2)
