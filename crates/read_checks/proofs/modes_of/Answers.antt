-- `read_checks::modes_of` meets its contract: `*`, a word, an array, or what is refused at its place. Assumes nothing.
use borrow.Enum.Refused.{opened}
use mathlib.Core.Path.{sym}
use mathlib.Core.Path.{◌∙◌}
use Rattle.reading.specs.Argument.{modes_of}
use Rattle.read_forms.specs.Items.{entries}
use Rattle.read_forms.specs.Forms.{arg_in, modes_in}
use Rattle.read_forms.specs.Fits.{Fits}
use Rattle.read_forms.proofs.Lists.{no_items}
use Rattle.read_checks.proofs.Entries.{listed_some}
use Rattle.read_checks.proofs.Arguments.{modes-array}
use Rattle.read_checks.proofs.Others.{no_modes}
use Rattle.read_checks.proofs.modes_of.Goals as goal

pub lone_mode-requires : goal.lone_mode-requires
unfolding Fits
lone_mode-requires c = let p = c.requires in (p.1, (rw c.in-Word.is at p.2).inside)

pub returns-then-items-eq0 : goal.returns-then-items-eq0
unfolding modes_of arg_in entries
returns-then-items-eq0 c = rw (c.in-Array.is, c.wrong.ensures, no_items _ c.in-Array.items c.if-items-eq0.true)

pub listed_modes-requires : goal.listed_modes-requires
unfolding Fits
listed_modes-requires c = let p = c.requires in (p.0, p.1, rw c.in-Array.is at p.2)

pub returns-in-Star : goal.returns-in-Star
unfolding modes_in modes_of arg_in
returns-in-Star c = rw c.in-Star.is

pub returns-in-Word : goal.returns-in-Word
unfolding modes_of arg_in
returns-in-Word c = c.lone_mode.ensures ∙ rw c.in-Word.is

pub returns-else-items-eq0 : goal.returns-else-items-eq0
unfolding arg_in Fits
returns-else-items-eq0 c =
    let a = c.args in
    let l = rw c.in-Array.is at c.requires.2 in
    c.listed_modes.ensures ∙ rw (c.in-Array.is, modes-array a.family (listed_some a.text.now c.in-Array.items l c.if-items-eq0.false))

pub returns-in_default : goal.returns-in_default
returns-in_default c = rw (c.wrong-in_default.ensures, c.place_of.ensures c.args.text.now) (sym (no_modes _ _ _ (opened c.in_default.in_default-own.keys4)))
