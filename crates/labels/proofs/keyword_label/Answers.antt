-- `labels::keyword_label` meets its contract: the row at the place holds the keyword.
-- Assumes nothing.
use mathlib.Core.Path.{◌≡◌, ◌∙◌}
use mathlib.Core.Bool.{true}
use mathlib.Core.List.{[]}
use native.Mathlib.Nat.{zero-add}
use lib.ListN.{get_or}
use Rattle.labels.specs.Label.{keywords}
use Rattle.labels.specs.Row.{label_at, row_fits}
use Rattle.labels.proofs.Tables.{held-row, lent, keywords-held}
use Rattle.labels.proofs.keyword_label.Goals.{Start}
use Rattle.labels.proofs.keyword_label.Goals as goal

-- the row of the keyword
row : (c : Start)
    → (row_fits c.args.keys.now c.args.place ≡ true) × (label_at c.args.keys.now c.args.place ≡ get_or keywords c.args.place [])
row c = rw (zero-add c.args.place) at (held-row (lent c.requires.keys_value keywords-held) c.args.place c.requires.place_in_bounds)

pub label_at-requires : goal.label_at-requires
label_at-requires c = (row (goal.at.label_at-requires c).Start).0

pub returns : goal.returns
returns c = c.label_at.ensures ∙ (row (goal.at.returns c).Start).1
