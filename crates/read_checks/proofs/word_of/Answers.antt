-- `read_checks::word_of` meets its contract: a word, or what is refused at its place. Assumes nothing.
use borrow.Enum.Refused.{opened}
use mathlib.Core.Path.{sym}
use Rattle.reading.specs.Feature.{name_of}
use Rattle.read_forms.specs.Forms.{arg_in}
use Rattle.read_checks.proofs.Others.{no_word}
use Rattle.read_checks.proofs.word_of.Goals as goal

pub returns-in-Word : goal.returns-in-Word
unfolding name_of arg_in
returns-in-Word c = λ s. rw c.in-Word.is

pub returns-in_default : goal.returns-in_default
returns-in_default c = λ s. rw (c.wrong.ensures, c.place_of.ensures s) (sym (no_word s _ (opened c.in_default.in_default-own.keys2)))
