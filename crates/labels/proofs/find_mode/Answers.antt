-- `labels::find_mode` meets its contract: what is found in the family's rows is what is found in its labels, which they hold.
-- Assumes nothing.
use mathlib.Core.Path.{◌∙◌}
use Rattle.labels.specs.Label.{mark_of, labels_of}
use Rattle.labels.specs.Row.{Holds}
use Rattle.labels.proofs.Tables.{lent}
use Rattle.labels.proofs.find_mode.Goals.{After-rows_of-rows}
use Rattle.labels.proofs.find_mode.Goals as goal

-- the family's rows, in what is lent
rows : (c : After-rows_of-rows)
    → Holds c.args.labels.now (mark_of c.args.family) c.rows_of-rows.result.0 c.rows_of-rows.result.1 (labels_of c.args.family)
rows c = lent c.requires c.rows_of-rows.ensures

pub find_rows-requires : goal.find_rows-requires
find_rows-requires c = (rows (goal.at.find_rows-requires c).After-rows_of-rows).fit

pub returns : goal.returns
returns c = c.find_rows.ensures ∙ rw (rows (goal.at.returns c).After-rows_of-rows).held
