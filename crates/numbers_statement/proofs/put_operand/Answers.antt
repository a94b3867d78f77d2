-- `numbers_statement::put_operand` meets its contract: `*`, a symbol, or names. Assumes nothing.
use mathlib.Core.Path.{◌≡◌, ap, ◌∙◌}
use mathlib.Core.List.{List, ◌∷◌, map}
use Prim.Native.Nat.{ℕ}
use lib.ListN.{length-map}
use Rattle.canonical.specs.Numbers.{pairs_numbers, operand_numbers}
use Rattle.read_forms.specs.declared.Items.{Items}
use Rattle.read_forms.specs.declared.Operand.TheVariants as operand
use Rattle.read_forms.specs.Items.{items_in}
use Rattle.read_forms.specs.Forms.{operand_in}
use Rattle.read_forms.specs.Fits.{Listed}
use Rattle.numbers_statement.specs.declared.Entry.TheVariants.{Pair}
use Rattle.numbers_statement.specs.Entries.{entries_numbers}
use Rattle.numbers_statement.proofs.Pieces.{ready_same, written_same}
use Rattle.numbers_statement.proofs.Entries.{pairs_are, items_many}
use Rattle.numbers_statement.proofs.put_operand.Goals as goal

named :
    (s : List ℕ) (is : Items)
    → Listed s is
    → operand_numbers (operand_in s (operand.Names is)) ≡ 7 ∷ is.count ∷ entries_numbers Pair (items_in s is)
unfolding operand_in
named s is l =
    ap (λ (n : ℕ). 7 ∷ n ∷ pairs_numbers (map (λ i. i.name) (items_in s is))) (length-map (items_in s is) (λ i. i.name) ∙ items_many s is l)
    ∙ ap (λ (vs : List ℕ). 7 ∷ is.count ∷ vs) (pairs_are (items_in s is))

pub put-requires : goal.put-requires
unfolding operand_in
put-requires c =
    rw c.in-Wildcard.is at c.requires.2

pub put_name-requires : goal.put_name-requires
unfolding operand_in
put_name-requires c =
    let h = rw c.in-Symbol.is at c.requires in
    (h.1, h.2)

pub put_list-requires : goal.put_list-requires
put_list-requires c =
    let h = rw c.in-Names.is at c.requires in
    (h.0, h.1, ready_same (named c.args.text.now c.in-Names.items h.1) h.2)

pub returns-in-Wildcard : goal.returns-in-Wildcard
unfolding operand_in
returns-in-Wildcard c =
    rw c.in-Wildcard.is c.put.ensures

pub returns-in-Symbol : goal.returns-in-Symbol
unfolding operand_in
returns-in-Symbol c =
    rw c.in-Symbol.is c.put_name.ensures

pub returns-in-Names : goal.returns-in-Names
returns-in-Names c =
    let h = rw c.in-Names.is at c.requires in
    rw c.in-Names.is (written_same (named c.args.text.now c.in-Names.items h.1) c.put_list.ensures)
