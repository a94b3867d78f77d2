-- `tokens::scan_text` meets its contract: the constant is the table of classes, entry by entry. Assumes nothing.
use mathlib.Core.Path.{refl}
use Rattle.tokens.specs.Class.{class_of, class_table}
use Rattle.tokens.proofs.scan_text.Goals as goal

pub scan-requires : goal.scan-requires
unfolding class_table class_of
scan-requires c = refl
