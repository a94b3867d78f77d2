-- `labels::mode_label` meets its contract: the family's row at the place holds the label.
-- Assumes nothing.
use mathlib.Core.Path.{◌≡◌, ◌∙◌, sym}
use mathlib.Core.Bool.{true}
use mathlib.Core.List.{[]}
use Prim.Native.Nat.{◌+◌}
use native.Mathlib.Omega.{arith}
use lib.ListN.{get_or}
use Rattle.labels.specs.Label.{labels_of}
use Rattle.labels.specs.Row.{label_at, row_fits}
use Rattle.labels.proofs.Tables.{row_within, held-row, lent, past_row, rows-held}
use Rattle.labels.proofs.mode_label.Goals.{After-struct_known-2-1}
use Rattle.labels.proofs.mode_label.Goals as goal

-- the row of the label
row : (c : After-struct_known-2-1)
    → (let a = c.args in
    (row_fits a.labels.now (c.rows_of-rows.result.0 + a.place) ≡ true)
    × (label_at a.labels.now (c.rows_of-rows.result.0 + a.place) ≡ get_or (labels_of a.family) a.place []))
row c =
    held-row (lent c.requires c.rows_of-rows.ensures) _ (omega (arith, rows-held c.rows_of-rows.ensures, c.if-rows-place.false))

pub returns-then-rows-place : goal.returns-then-rows-place
returns-then-rows-place c = let a = c.args in
    c.no_label.ensures ∙ sym (past_row (labels_of a.family) a.place (omega (arith, rows-held c.rows_of-rows.ensures, c.if-rows-place.true)))

pub overflow_add-rows : goal.overflow_add-rows
overflow_add-rows c = let a = c.args in
    record { fits = omega (arith, row_within a.labels.now (c.rows_of-rows.result.0 + a.place) (row (goal.at.overflow_add-rows c).After-struct_known-2-1).0) }

pub label_at-requires : goal.label_at-requires
label_at-requires c = (row (goal.at.label_at-requires c).After-struct_known-2-1).0

pub returns : goal.returns
returns c = c.label_at.ensures ∙ (row (goal.at.returns c).After-struct_known-2-1).1
