-- `read_checks::number_of` meets its contract: a number, or what is refused at its place. Assumes nothing.
use borrow.Enum.Refused.{opened}
use mathlib.Core.Path.{sym}
use Rattle.reading.specs.Feature.{name_of}
use Rattle.read_forms.specs.Forms.{arg_in}
use Rattle.read_checks.proofs.Others.{no_number}
use Rattle.read_checks.proofs.number_of.Goals as goal

pub returns-in-Number : goal.returns-in-Number
unfolding name_of arg_in
returns-in-Number c = λ s. rw c.in-Number.is

pub returns-in_default : goal.returns-in_default
returns-in_default c = λ s. rw (c.wrong.ensures, c.place_of.ensures s) (sym (no_number s _ (opened c.in_default.in_default-own.keys2)))
