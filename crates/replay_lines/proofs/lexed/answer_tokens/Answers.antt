-- `replay_lines::lexed::answer_tokens` is safe and ends: the constant is the table of classes. Assumes nothing.
use mathlib.Core.Path.{refl}
use Rattle.tokens.specs.Class.{class_of, class_table}
use Rattle.replay_lines.proofs.lexed.answer_tokens.Goals as goal

pub scan-requires : goal.scan-requires
unfolding class_table class_of
scan-requires c = refl

pub put_tokens-requires : goal.put_tokens-requires
unfolding class_table class_of
put_tokens-requires c = refl
