-- `read_checks::place_of` meets its contract, variant by variant. Assumes nothing.
use Rattle.reading.specs.Argument.{place_of}
use Rattle.read_forms.specs.Forms.{arg_in}
use Rattle.read_checks.proofs.place_of.Goals as goal

pub returns-in-Star : goal.returns-in-Star
unfolding place_of arg_in
returns-in-Star c = λ s. rw c.in-Star.is

pub returns-in-Plus : goal.returns-in-Plus
unfolding place_of arg_in
returns-in-Plus c = λ s. rw c.in-Plus.is

pub returns-in-Symbol : goal.returns-in-Symbol
unfolding place_of arg_in
returns-in-Symbol c = λ s. rw c.in-Symbol.is

pub returns-in-Word : goal.returns-in-Word
unfolding place_of arg_in
returns-in-Word c = λ s. rw c.in-Word.is

pub returns-in-Number : goal.returns-in-Number
unfolding place_of arg_in
returns-in-Number c = λ s. rw c.in-Number.is

pub returns-in-Range : goal.returns-in-Range
unfolding place_of arg_in
returns-in-Range c = λ s. rw c.in-Range.is

pub returns-in-Array : goal.returns-in-Array
unfolding place_of arg_in
returns-in-Array c = λ s. rw c.in-Array.is
