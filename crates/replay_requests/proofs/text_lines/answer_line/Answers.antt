-- `text_lines::answer_line` is safe and ends: the constants that it lends are the tables, and a large buffer has 16,384 bytes. Assumes nothing.
use mathlib.Core.Path.{refl}
use borrow.Author.Rules.{rules}
use Rattle.tokens.specs.Class.{class_of, class_table}
use Rattle.labels.specs.Label.{labels_of, keywords}
use Rattle.labels.specs.Table.{label_table, keyword_table}
use Rattle.replay_requests.proofs.text_lines.answer_line.Goals as goal

pub print_line-line-requires : goal.print_line-line-requires
unfolding class_table class_of label_table labels_of keyword_table keywords
print_line-line-requires c = (refl, refl, refl, search rules)
