-- `numbers_all::put_counted` meets its contract: the statement's numbers are written behind an index, and there how many they are.
-- Assumes nothing.
use Prim.Native.Nat.{ℕ, ◌+◌, ◌-◌}
use native.Mathlib.Omega.{arith}
use mathlib.Core.Path.{◌≡◌, ◌∙◌, ap, sym}
use mathlib.Core.List.{[], ◌∷◌}
use lib.ListN.{length}
use Rattle.canonical.specs.Numbers.{numbers_of}
use Rattle.read_forms.specs.Forms.{statement_in}
use Rattle.numbers_statement.specs.Entries.{taken_in}
use Rattle.numbers_statement.proofs.Pieces.{ready_same, written_same}
use Rattle.numbers_statement.proofs.Whole.{statement-numbers}
use Rattle.numbers_all.proofs.Counted.{written-before, ready_behind, ready_before}
use Rattle.numbers_all.proofs.put_counted.Goals.{After-parts_of-parts, After-put_parts-next}
use Rattle.numbers_all.proofs.put_counted.Goals as goal

-- the numbers of the parts are the statement's
same :
    (c : After-parts_of-parts)
    → let a = c.args in
    numbers_of (statement_in a.text.now a.statement) ≡ taken_in a.text.now c.parts_of-parts.result
same c =
    let a = c.args in
    sym (ap (taken_in a.text.now) c.parts_of-parts.ensures ∙ statement-numbers a.text.now a.statement)

-- how many there are
size :
    (c : After-put_parts-next)
    → let a = c.args in
    c.put_parts-next.result - (a.at + 1) ≡ length (numbers_of (statement_in a.text.now a.statement))
size c = omega (arith, c.put_parts-next.ensures.next, ap length (same (goal.at.After-put_parts-next c).After-parts_of-parts))

pub overflow_add-first : goal.overflow_add-first
overflow_add-first c = omega (arith, c.requires.2.room)

pub put_parts-next-requires : goal.put_parts-next-requires
put_parts-next-requires c =
    (c.requires.0, rw c.parts_of-parts.ensures c.requires.1, ready_same (same (goal.at.put_parts-next-requires c).After-parts_of-parts) (ready_behind c.requires.2))

pub overflow_sub-next : goal.overflow_sub-next
overflow_sub-next c = omega (arith, c.put_parts-next.ensures.next)

pub put-requires : goal.put-requires
put-requires c =
    rw (size (goal.at.put-requires c).After-put_parts-next) (ready_before c.requires.2)

pub returns : goal.returns
returns c =
    written-before (written_same (same (goal.at.returns c).After-parts_of-parts) c.put_parts-next.ensures)
    (written_same (ap (λ (k : ℕ). k ∷ []) (sym (size (goal.at.returns c).After-put_parts-next))) c.put.ensures)
