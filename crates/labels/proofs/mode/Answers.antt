-- `labels::mode` meets its contract: the constant is the table of labels, byte by byte.
-- Assumes nothing.
use mathlib.Core.Path.{refl}
use Rattle.labels.specs.Label.{labels_of}
use Rattle.labels.specs.Table.{label_table}
use Rattle.labels.proofs.mode.Goals as goal

pub find_mode-requires : goal.find_mode-requires
unfolding label_table labels_of
find_mode-requires c = refl
