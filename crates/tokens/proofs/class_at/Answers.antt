-- `tokens::class_at` meets its contract: a byte is below 256, and the table's entry there is its class's number.
-- Assumes nothing.
use native.Mathlib.Omega.{arith}
use mathlib.Core.Path.{◌∙◌, ap}
use mathlib.Core.List.{List}
use Prim.Native.Nat.{ℕ}
use lib.ListN.{get_or}
use Rattle.tokens.proofs.Classes.{table_entry}
use Rattle.tokens.proofs.class_at.Goals as goal

pub overflow_cast-result : goal.overflow_cast-result
overflow_cast-result c = omega (arith, c.type_inv.text c.args.at)

pub bounds-classes-text : goal.bounds-classes-text
bounds-classes-text c = omega (arith, c.type_inv.text c.args.at)

pub returns : goal.returns
returns c = let a = c.args in
    let b = get_or a.text.now a.at 0 in
    ap (λ (l : List ℕ). get_or l b 0) c.requires.0
    ∙ table_entry b (omega (arith, c.type_inv.text a.at))
