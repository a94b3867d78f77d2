-- `read_checks::counts_of` meets its contract: a number, a range, an array, or what is refused at its place. Assumes nothing.
use borrow.Enum.Refused.{opened}
use mathlib.Core.Path.{sym}
use Rattle.reading.specs.Argument.{counts_of}
use Rattle.read_forms.specs.Forms.{arg_in, counts_in}
use Rattle.read_forms.specs.Fits.{Fits}
use Rattle.read_checks.proofs.Others.{no_counts}
use Rattle.read_checks.proofs.counts_of.Goals as goal

pub lone_count-requires : goal.lone_count-requires
unfolding Fits
lone_count-requires c = (rw c.in-Number.is at c.requires.1).inside

pub listed_counts-requires : goal.listed_counts-requires
unfolding Fits
listed_counts-requires c = let p = c.requires in (p.0, rw c.in-Array.is at p.1)

pub returns-in-Number : goal.returns-in-Number
unfolding counts_of arg_in
returns-in-Number c = rw c.in-Number.is c.lone_count.ensures

pub returns-in-Range : goal.returns-in-Range
unfolding counts_in counts_of arg_in
returns-in-Range c = rw c.in-Range.is

pub returns-in-Array : goal.returns-in-Array
unfolding arg_in
returns-in-Array c = rw c.in-Array.is c.listed_counts.ensures

pub returns-in_default : goal.returns-in_default
returns-in_default c = rw (c.wrong.ensures, c.place_of.ensures c.args.text.now) (sym (no_counts _ _ _ (opened c.in_default.in_default-own.keys4)))
