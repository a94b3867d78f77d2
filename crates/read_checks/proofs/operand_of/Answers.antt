-- `read_checks::operand_of` meets its contract: `*`, a symbol, names, or what is refused at its place. Assumes nothing.
use mathlib.Core.Path.{sym}
use Rattle.reading.specs.Argument.{operand_of}
use Rattle.read_forms.specs.Items.{entries}
use Rattle.read_forms.specs.Forms.{arg_in, operand_in}
use Rattle.read_forms.specs.Fits.{Fits}
use Rattle.read_forms.proofs.Lists.{no_items, stands_one}
use Rattle.read_checks.proofs.Entries.{listed_some}
use Rattle.read_checks.proofs.Arguments.{operand_array}
use Rattle.read_checks.proofs.Others.{no_operand}
use Rattle.read_checks.proofs.operand_of.Goals as goal

pub returns-then-items-eq0 : goal.returns-then-items-eq0
unfolding operand_in operand_of arg_in entries
returns-then-items-eq0 c = λ s h. rw (c.in-Array.is, c.wrong.ensures, no_items s c.in-Array.items c.if-items-eq0.true)

pub returns-in-Star : goal.returns-in-Star
unfolding operand_in operand_of arg_in
returns-in-Star c = λ s h. rw c.in-Star.is

pub returns-in-Symbol : goal.returns-in-Symbol
unfolding operand_in operand_of arg_in
returns-in-Symbol c = λ s h. rw c.in-Symbol.is

pub returns-in-Word : goal.returns-in-Word
unfolding operand_in operand_of arg_in Fits
returns-in-Word c = λ s h. rw (c.in-Word.is, c.alone.ensures, stands_one (rw c.in-Word.is at h))

pub returns-in-Number : goal.returns-in-Number
unfolding operand_in operand_of arg_in Fits
returns-in-Number c = λ s h. rw (c.in-Number.is, c.alone-in-Number.ensures, stands_one (rw c.in-Number.is at h))

pub returns-else-items-eq0 : goal.returns-else-items-eq0
unfolding operand_in arg_in Fits
returns-else-items-eq0 c = λ s h. rw (c.in-Array.is, operand_array (listed_some s c.in-Array.items (rw c.in-Array.is at h) c.if-items-eq0.false))

pub returns-in_default : goal.returns-in_default
returns-in_default c = λ s h. rw (c.wrong-in_default.ensures, c.place_of.ensures s) (sym (no_operand s _ c.in_default.in_default-own.keys6))
