-- `read_checks::items_of` meets its contract: a list that is not empty, or what is refused at its place. Assumes nothing.
use borrow.Enum.Refused.{opened}
use mathlib.Core.Path.{sym}
use Rattle.reading.specs.Argument.{items_of}
use Rattle.read_forms.specs.Items.{entries}
use Rattle.read_forms.specs.Forms.{arg_in}
use Rattle.read_forms.specs.Fits.{Fits}
use Rattle.read_forms.proofs.Lists.{no_items, stands_one}
use Rattle.read_checks.proofs.Entries.{listed_some}
use Rattle.read_checks.proofs.Arguments.{items_array}
use Rattle.read_checks.proofs.Others.{no_items as no-values}
use Rattle.read_checks.proofs.items_of.Goals as goal

pub returns-then-items-eq0 : goal.returns-then-items-eq0
unfolding items_of arg_in entries
returns-then-items-eq0 c = λ s h. rw (c.in-Array.is, c.wrong.ensures, no_items s c.in-Array.items c.if-items-eq0.true)

pub returns-in-Word : goal.returns-in-Word
unfolding items_of arg_in Fits
returns-in-Word c = λ s h. rw (c.in-Word.is, c.alone.ensures, stands_one (rw c.in-Word.is at h))

pub returns-in-Number : goal.returns-in-Number
unfolding items_of arg_in Fits
returns-in-Number c = λ s h. rw (c.in-Number.is, c.alone-in-Number.ensures, stands_one (rw c.in-Number.is at h))

pub returns-else-items-eq0 : goal.returns-else-items-eq0
unfolding arg_in Fits
returns-else-items-eq0 c = λ s h. rw (c.in-Array.is, items_array (listed_some s c.in-Array.items (rw c.in-Array.is at h) c.if-items-eq0.false))

pub returns-in_default : goal.returns-in_default
returns-in_default c = λ s h. rw (c.wrong-in_default.ensures, c.place_of.ensures s) (sym (no-values s _ (opened c.in_default.in_default-own.keys4)))
