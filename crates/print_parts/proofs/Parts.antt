-- What counts, operands and lists print as, by their forms.
-- Assumes nothing.
use mathlib.Core.Path.{◌≡◌, ap}
use mathlib.Core.List.{List, map, map-map}
use Prim.Native.Nat.{ℕ}
use Rattle.tokens.specs.Token.{Shape}
use Rattle.tokens.specs.Spelling.{spell_all}
use Rattle.counts.specs.Decimal.{digits_of}
use Rattle.canonical.specs.Canonical.{name_shape, count_shape, item_shape, bare_one, bracketed, counts_shapes, operand_shapes}
use Rattle.read_forms.specs.declared.Items.{Items}
use Rattle.read_forms.specs.declared.Counts.TheVariants as counts
use Rattle.read_forms.specs.declared.Operand.TheVariants as operand
use Rattle.read_forms.specs.Items.{items_in}
use Rattle.read_forms.specs.Forms.{count_for, counts_in, operand_in}
use Rattle.print_parts.specs.Parts.{number_shape, shapes_as}
use Rattle.print_parts.proofs.Bytes.{spell_one}

module _ (s : List ℕ) where
  pub one_count : (v : ℕ) → spell_all (counts_shapes (counts_in s (counts.Single v))) ≡ digits_of v
  unfolding counts_in
  one_count v = spell_one (count_shape v)

  pub listed-counts :
      (is : Items) → spell_all (counts_shapes (counts_in s (counts.List is))) ≡ spell_all (bracketed (shapes_as number_shape (items_in s is)))
  unfolding counts_in
  listed-counts is = ap (λ (xs : List Shape). spell_all (bracketed xs)) (map-map count_shape count_for (items_in s is))

  pub listed-names :
      (is : Items) → spell_all (operand_shapes (operand_in s (operand.Names is))) ≡ spell_all (bare_one (map item_shape (items_in s is)))
  unfolding operand_in
  listed-names is = ap (λ (xs : List Shape). spell_all (bare_one xs)) (map-map name_shape (λ i. i.name) (items_in s is))
