-- `read_checks::op_of` meets its contract: `*`, `+`, or what is refused at its place. Assumes nothing.
use borrow.Enum.Refused.{opened}
use mathlib.Core.Path.{sym}
use Rattle.reading.specs.Feature.{operator_of}
use Rattle.read_forms.specs.Forms.{arg_in}
use Rattle.read_checks.proofs.Others.{no_operator}
use Rattle.read_checks.proofs.op_of.Goals as goal

pub returns-in-Star : goal.returns-in-Star
unfolding operator_of arg_in
returns-in-Star c = λ s. rw c.in-Star.is

pub returns-in-Plus : goal.returns-in-Plus
unfolding operator_of arg_in
returns-in-Plus c = λ s. rw c.in-Plus.is

pub returns-in_default : goal.returns-in_default
returns-in_default c = λ s. rw (c.wrong.ensures, c.place_of.ensures s) (sym (no_operator s _ (opened c.in_default.in_default-own.keys3)))
