-- A statement's numbers where its text stands further on: its offsets grow, all other numbers stay, and so does how many there are.
-- Assumes nothing.
use Prim.Native.Nat.{ℕ}
use mathlib.Core.Path.{◌≡◌, refl, ◌∙◌, ap, sym}
use mathlib.Core.Bool.{Bool}
use mathlib.Core.List.{List, [], ◌∷◌, ◌++◌, map}
use lib.ListN.{length, length-map}
use Rattle.reading.specs.Statement.{Name, Item, Operand, everyone, symbol, names, Statement}
use Rattle.reading.specs.Parts.{
  Part,
  modes_part,
  counts_part,
  estimated_part,
  operand_part,
  name_part,
  values_part,
  operator_part,
  omitted,
  parts_of,
}
use Rattle.reading_laws.specs.Moved.{move_name, move_item, move_operand, move_part}
use Rattle.reading_laws.specs.Raised.{further, raise_statement}
use Rattle.reading_laws.proofs.Parts.{parts_moved}
use Rattle.canonical.specs.Numbers.{
  modes_numbers,
  counts_numbers,
  pairs_numbers,
  operand_numbers,
  items_numbers,
  operator_numbers,
  part_numbers,
  parts_numbers,
  head_numbers,
  taken_numbers,
  numbers_of,
}
use Rattle.canonical_laws.specs.Offsets.{
  no_offsets,
  pairs_offsets,
  values_offsets,
  operand_offsets,
  part_offsets,
  parts_offsets,
  offsets_of,
  raised,
}

module _ (d : ℕ) where
  -- Numbers in front of others, which are raised by themselves.

  none-raised : (xs : List ℕ) (ts : List Bool) (ns : List ℕ) → raised d (no_offsets xs ++ ts) (xs ++ ns) ≡ xs ++ raised d ts ns
  none-raised [] ts ns = refl
  none-raised (x ∷ xs) ts ns = ap (λ (l : List ℕ). x ∷ l) (none-raised xs ts ns)

  pairs_raised :
      (xs : List Name) (ts : List Bool) (ns : List ℕ)
      → raised d (pairs_offsets xs ++ ts) (pairs_numbers xs ++ ns) ≡ pairs_numbers (map (move_name (further d)) xs) ++ raised d ts ns
  pairs_raised [] ts ns = refl
  pairs_raised (x ∷ xs) ts ns = simp (pairs_raised xs ts ns)

  values-raised :
      (is : List Item) (ts : List Bool) (ns : List ℕ)
      → raised d (values_offsets is ++ ts) (items_numbers is ++ ns) ≡ items_numbers (map (move_item (further d)) is) ++ raised d ts ns
  values-raised [] ts ns = refl
  values-raised (i ∷ is) ts ns = simp (values-raised is ts ns)

  operand_raised :
      (p : Operand) (ts : List Bool) (ns : List ℕ)
      → raised d (operand_offsets p ++ ts) (operand_numbers p ++ ns) ≡ operand_numbers (move_operand (further d) p) ++ raised d ts ns
  operand_raised everyone ts ns = refl
  operand_raised (symbol n) ts ns = refl
  operand_raised (names xs) ts ns = simp (pairs_raised xs ts ns, length-map)

  part-raised :
      (p : Part) (ts : List Bool) (ns : List ℕ)
      → raised d (part_offsets p ++ ts) (part_numbers p ++ ns) ≡ part_numbers (move_part (further d) p) ++ raised d ts ns
  part-raised (modes_part f ms) ts ns = none-raised (modes_numbers ms) ts ns
  part-raised (counts_part c) ts ns = none-raised (counts_numbers c) ts ns
  part-raised estimated_part ts ns = refl
  part-raised (operand_part p) ts ns = operand_raised p ts ns
  part-raised (name_part n) ts ns = refl
  part-raised (values_part is) ts ns = simp (values-raised is ts ns, length-map)
  part-raised (operator_part op) ts ns = none-raised (operator_numbers op) ts ns
  part-raised omitted ts ns = refl

  parts_raised : (ps : List Part) → raised d (parts_offsets ps) (parts_numbers ps) ≡ parts_numbers (map (move_part (further d)) ps)
  parts_raised [] = refl
  parts_raised (p ∷ ps) =
      part-raised p (parts_offsets ps) (parts_numbers ps)
      ∙ ap (λ (l : List ℕ). part_numbers (move_part (further d) p) ++ l) (parts_raised ps)

  -- Further on, a statement's numbers are its numbers with the offsets raised.
  pub numbers-raised : (s : Statement) → numbers_of (raise_statement d s) ≡ raised d (offsets_of s) (numbers_of s)
  unfolding numbers_of
  numbers-raised s =
      let p = parts_of s in
      let h = head_numbers p.keyword p.optional in
      ap taken_numbers (parts_moved (further d) s)
      ∙ ap (λ (l : List ℕ). h ++ l) (sym (parts_raised p.arguments))
      ∙ sym (none-raised h (parts_offsets p.arguments) (parts_numbers p.arguments))

  raised-length : (ts : List Bool) (ns : List ℕ) → length (raised d ts ns) ≡ length ns
  raised-length [] ns = refl
  raised-length (t ∷ ts) [] = refl
  raised-length (t ∷ ts) (n ∷ ns) = simp (raised-length ts ns)

  -- They are as many.
  pub raised-many : (s : Statement) → length (numbers_of (raise_statement d s)) ≡ length (numbers_of s)
  raised-many s = ap length (numbers-raised s) ∙ raised-length (offsets_of s) (numbers_of s)
