-- `labels::label_at` meets its contract: the row lies in the table and its label in the row, so the part does.
-- Assumes nothing.
use native.Mathlib.Omega.{arith}
use Prim.Native.Nat.{◌+◌, ◌*◌, ◌≤◌}
use native.Mathlib.Nat.{add-sub_cancel_left}
use lib.ListN.{length, get_or}
use Rattle.labels.proofs.Tables.{row_within}
use Rattle.labels.proofs.label_at.Goals.{Start}
use Rattle.labels.proofs.label_at.Goals as goal

-- the row that is asked for ends within the table, and its label within the row
row : (c : Start) → (16 * c.args.row + 16 ≤ length c.args.table.now) × (get_or c.args.table.now (16 * c.args.row + 1) 0 ≤ 14)
row c = row_within c.args.table.now c.args.row c.requires

pub overflow_mul-at : goal.overflow_mul-at
overflow_mul-at c = omega (arith, row (goal.at.overflow_mul-at c).Start)

pub overflow_add-count : goal.overflow_add-count
overflow_add-count c = omega (arith, row (goal.at.overflow_add-count c).Start)

pub bounds-table-at : goal.bounds-table-at
bounds-table-at c = omega (arith, row (goal.at.bounds-table-at c).Start)

pub overflow_cast-count : goal.overflow_cast-count
overflow_cast-count c = omega (arith, row (goal.at.overflow_cast-count c).Start)

pub overflow_add-start : goal.overflow_add-start
overflow_add-start c = omega (arith, row (goal.at.overflow_add-start c).Start)

pub overflow_add-end : goal.overflow_add-end
overflow_add-end c = omega (arith, row (goal.at.overflow_add-end c).Start)

pub slice_bounds-result-end : goal.slice_bounds-result-end
slice_bounds-result-end c = omega (arith, row (goal.at.slice_bounds-result-end c).Start)

pub returns : goal.returns
returns c = simp add-sub_cancel_left
