-- `read_forms::count_at` meets its contract. Assumes nothing.
use mathlib.Core.Path.{◌∙◌, ap}
use Rattle.counts.specs.Count.{count_of}
use Rattle.read_forms.proofs.count_at.Goals as goal

pub returns : goal.returns
returns c = c.count_of.ensures ∙ ap (count_of _) c.spelling.ensures
