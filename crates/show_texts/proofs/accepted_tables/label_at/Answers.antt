-- `accepted_tables::label_at` is safe and ends: the constant is the table of labels. Assumes nothing.
use mathlib.Core.Path.{refl}
use Rattle.labels.specs.Label.{labels_of}
use Rattle.labels.specs.Table.{label_table}
use Rattle.show_texts.proofs.accepted_tables.label_at.Goals as goal

pub mode_label-requires : goal.mode_label-requires
unfolding label_table labels_of
mode_label-requires c = refl
