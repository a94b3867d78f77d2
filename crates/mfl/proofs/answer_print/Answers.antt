-- `mfl::answer_print` is safe and ends: the constants that it lends are the tables, and the page has its 16,384 bytes. Assumes nothing.
use mathlib.Core.Path.{refl}
use native.Mathlib.Omega.{arith}
use Rattle.tokens.specs.Class.{class_of, class_table}
use Rattle.labels.specs.Label.{labels_of, keywords}
use Rattle.labels.specs.Table.{label_table, keyword_table}
use Rattle.mfl.proofs.answer_print.Goals as goal

pub print_line-line-requires : goal.print_line-line-requires
unfolding class_table class_of label_table labels_of keyword_table keywords
print_line-line-requires c = (refl, refl, refl, omega arith)
