-- `read_lists::count_or_0` meets its contract. Assumes nothing.
use mathlib.Core.Path.{◌∙◌, ap}
use Rattle.read_forms.specs.Forms.{count_or0}
use Rattle.read_lists.proofs.Filling.{or0}
use Rattle.read_lists.proofs.count_or_0.Goals as goal

pub returns : goal.returns
returns c = c.unwrap_or.ensures ∙ or0 c.count_at.result ∙ ap count_or0 c.count_at.ensures
