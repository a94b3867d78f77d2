-- `read_checks::is_n` meets its contract, variant by variant. Assumes nothing.
use Rattle.read_forms.specs.Forms.{arg_in}
use Rattle.read_forms.specs.Fits.{Fits}
use Rattle.read_checks.proofs.is_n.Goals as goal

pub spells_n-requires : goal.spells_n-requires
unfolding Fits
spells_n-requires c = (rw c.in-Word.is at c.requires).inside

pub spells_n-requires-in-Number : goal.spells_n-requires-in-Number
unfolding Fits
spells_n-requires-in-Number c = (rw c.in-Number.is at c.requires).inside

pub returns-in-Word : goal.returns-in-Word
unfolding arg_in
returns-in-Word c = rw c.in-Word.is c.spells_n.ensures

pub returns-in-Number : goal.returns-in-Number
unfolding arg_in
returns-in-Number c = rw c.in-Number.is c.spells_n-in-Number.ensures

pub returns-in-Star : goal.returns-in-Star
unfolding arg_in
returns-in-Star c = rw c.in-Star.is

pub returns-in-Plus : goal.returns-in-Plus
unfolding arg_in
returns-in-Plus c = rw c.in-Plus.is

pub returns-in-Symbol : goal.returns-in-Symbol
unfolding arg_in
returns-in-Symbol c = rw c.in-Symbol.is

pub returns-in-Range : goal.returns-in-Range
unfolding arg_in
returns-in-Range c = rw c.in-Range.is

pub returns-in-Array : goal.returns-in-Array
unfolding arg_in
returns-in-Array c = rw c.in-Array.is
