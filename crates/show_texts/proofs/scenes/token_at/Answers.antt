-- `scenes::token_at` is safe and ends: the constant is the table of classes. Assumes nothing.
use mathlib.Core.Path.{refl}
use Rattle.tokens.specs.Class.{class_of, class_table}
use Rattle.show_texts.proofs.scenes.token_at.Goals as goal

pub token_after_blanks-requires : goal.token_after_blanks-requires
unfolding class_table class_of
token_after_blanks-requires c = refl
