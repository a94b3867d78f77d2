-- `labels::keyword` meets its contract: the constant is the table of keywords, byte by byte.
-- Assumes nothing.
use mathlib.Core.Path.{refl}
use Rattle.labels.specs.Label.{keywords}
use Rattle.labels.specs.Table.{keyword_table}
use Rattle.labels.proofs.keyword.Goals as goal

pub find_keyword-requires : goal.find_keyword-requires
unfolding keyword_table keywords
find_keyword-requires c = refl
