-- `text_lines::print_in` is safe and ends: the constants that it lends are the tables. Assumes nothing.
use mathlib.Core.Path.{refl}
use Rattle.tokens.specs.Class.{class_of, class_table}
use Rattle.labels.specs.Label.{labels_of, keywords}
use Rattle.labels.specs.Table.{label_table, keyword_table}
use Rattle.replay_requests.proofs.text_lines.print_in.Goals as goal

pub print_under-requires : goal.print_under-requires
unfolding class_table class_of label_table labels_of keyword_table keywords
print_under-requires c = (refl, refl, refl)
