-- `labels::find_rows` meets its contract. The loop's invariant: what is found in all the rows is what is found in those left, counted on
-- from the rows passed. The measure is the number of rows left.
-- Assumes nothing.
use mathlib.Core.Path.{◌≡◌, sym, ap, ◌∙◌}
use mathlib.Core.Bool.{true}
use Prim.Native.Nat.{◌+◌}
use native.Mathlib.Omega.{arith}
use Rattle.text.proofs.Lists.{count_up-every}
use Rattle.labels.specs.Word.{same_word}
use Rattle.labels.specs.Table.{found_as}
use Rattle.labels.specs.Row.{label_at, row_fits}
use Rattle.labels.proofs.Tables.{row_within}
use Rattle.labels.proofs.Scanning.{passed_none, passed-more, passed-found, passed-all}
use Rattle.labels.proofs.find_rows.Goals.{After-same_word, In-loop-place}
use Rattle.labels.proofs.find_rows.Goals as goal

-- the row of a turn fits
row : (c : In-loop-place)
    → let args = c.args in
    row_fits args.table.now (args.first + c.loop-place.place) ≡ true
row c =
    count_up-every (row_fits c.args.table.now) c.args.first c.args.count c.loop-place.place c.requires c.loop-place-test.true

-- what a turn's comparison says of that row's label
told : (c : After-same_word)
    → let args = c.args in
    c.same_word.result ≡ same_word args.word.now (label_at args.table.now (args.first + c.loop-place.place))
told c = c.same_word.ensures ∙ rw c.label_at-label.ensures

pub loop-place-init : goal.loop-place-init
loop-place-init c = passed_none _ _ _ _

pub overflow_add-first : goal.overflow_add-first
overflow_add-first c = let args = c.args in
    omega (arith, row_within args.table.now (args.first + c.loop-place.place) (row (goal.at.overflow_add-first c).In-loop-place))

pub label_at-label-requires : goal.label_at-label-requires
label_at-label-requires c = row (goal.at.label_at-label-requires c).In-loop-place

pub same_word-requires : goal.same_word-requires
same_word-requires c = tt

pub returns-then-same_word : goal.returns-then-same_word
returns-then-same_word c = sym (ap found_as (passed-found c.loop-place.invariant (omega arith) (sym (told (goal.at.returns-then-same_word c).After-same_word) ∙ c.if-same_word.true)))

pub loop-place-preserved : goal.loop-place-preserved
loop-place-preserved c = passed-more c.loop-place.invariant (omega arith) (sym (told (goal.at.loop-place-preserved c).After-same_word) ∙ c.if-same_word.false)

pub returns : goal.returns
returns c = sym (ap found_as (passed-all c.loop-place.invariant c.loop-place-test.false))
