-- `read_profile::word_of` meets its contract: yes is told as 0. Assumes nothing.
use Rattle.std.specs.Prelude.{Result}
use mathlib.Core.Path.{◌∙◌, ap, sym, subst}
use Rattle.reading.specs.Answer.{Answer}
use Prim.Native.Nat.{ℕ}
use Rattle.read_forms.specs.declared.Refusal.{Refusal}
use Rattle.words.specs.Word.{word, Below}
use Rattle.read_profile.specs.Answers.{profiled_as, yes_as_zero}
use Rattle.read_profile.proofs.word_of.Goals as goal

abbrev yes_or : Result Unit Refusal → Answer ℕ
yes_or a = yes_as_zero (profiled_as a)

pub word_of-requires-in-Err : goal.word_of-requires-in-Err
unfolding profiled_as
word_of-requires-in-Err c = subst Below (ap yes_or c.in-Err.is) c.requires

pub returns-in-Ok : goal.returns-in-Ok
unfolding profiled_as
returns-in-Ok c = c.word_of.ensures ∙ ap word (sym (ap yes_or c.in-Ok.is))

pub returns-in-Err : goal.returns-in-Err
unfolding profiled_as
returns-in-Err c = c.word_of-in-Err.ensures ∙ ap word (sym (ap yes_or c.in-Err.is))
