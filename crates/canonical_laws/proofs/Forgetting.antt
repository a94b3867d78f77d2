-- Printing does not look at places: statements that stand elsewhere in a text are printed alike.
-- Assumes nothing.
use Prim.Native.Nat.{ℕ, ◌+◌}
use mathlib.Core.Path.{◌≡◌, refl, ◌∙◌, ap}
use mathlib.Core.List.{List, [], ◌∷◌, ◌++◌, map, map-map}
use Rattle.tokens.specs.Token.{Shape, width, Tokens, ◌▸◌}
use Rattle.tokens.specs.Spelling.{spell_all}
use Rattle.token_laws.specs.Join.{placed}
use Rattle.reading.specs.Statement.{Operand, everyone, symbol, names, Statement}
use Rattle.reading.specs.Parts.{
  Part,
  modes_part,
  counts_part,
  estimated_part,
  operand_part,
  name_part,
  values_part,
  operator_part,
  omitted,
  parts_of,
}
use Rattle.reading_laws.specs.Moved.{move_name, move_item, move_operand, move_statement, move_part, move_tokens}
use Rattle.reading_laws.proofs.Parts.{parts_moved}
use Rattle.canonical.specs.Canonical.{
  sign,
  name_shape,
  bare_one,
  operand_shapes,
  item_shape,
  part_shapes,
  parts_shapes,
  taken_shapes,
  statement_shapes,
  text_shapes,
  canonical,
}
use Rattle.canonical_laws.specs.Forgotten.{nowhere, forget, flat}

module _ (to : ℕ → ℕ) where
  operand_stays : (p : Operand) → operand_shapes (move_operand to p) ≡ operand_shapes p
  operand_stays everyone = refl
  operand_stays (symbol n) = refl
  operand_stays (names ns) = ap bare_one (map-map name_shape (move_name to) ns)

  part_stays : (p : Part) → part_shapes (move_part to p) ≡ part_shapes p
  part_stays (modes_part f ms) = refl
  part_stays (counts_part c) = refl
  part_stays estimated_part = refl
  part_stays (operand_part p) = simp (operand_stays p)
  part_stays (name_part n) = refl
  part_stays (values_part is) = simp (map-map item_shape (move_item to) is)
  part_stays (operator_part op) = refl
  part_stays omitted = refl

  parts_stay : (ps : List Part) → parts_shapes (map (move_part to) ps) ≡ parts_shapes ps
  parts_stay [] = refl
  parts_stay (p ∷ ps) = simp (part_stays p, parts_stay ps)

  statement-stays : (s : Statement) → statement_shapes (move_statement to s) ≡ statement_shapes s
  unfolding statement_shapes
  statement-stays s = ap taken_shapes (parts_moved to s) ∙ simp (parts_stay (parts_of s).arguments)

  text-stays : (ss : List Statement) → text_shapes (map (move_statement to) ss) ≡ text_shapes ss
  unfolding text_shapes
  text-stays [] = refl
  text-stays (s ∷ []) = statement-stays s
  text-stays (s ∷ t ∷ ss) = simp (statement-stays s) (ap (λ (l : List Shape). statement_shapes s ++ sign ";" ∷ l) (text-stays (t ∷ ss)))

  -- Moved statements have the same canonical text.
  canonical-stays : (ss : List Statement) → canonical (map (move_statement to) ss) ≡ canonical ss
  canonical-stays ss = ap spell_all (text-stays ss)

-- So have statements without their places.
pub canonical_forgets : (ss : List Statement) → canonical (map forget ss) ≡ canonical ss
canonical_forgets ss = canonical-stays nowhere ss

-- Tokens that stand one after the other, with their places forgotten.
pub placed-flat : (o : ℕ) (xs : List Shape) → move_tokens nowhere (placed o xs) ≡ flat xs
placed-flat o [] = refl
placed-flat o (x ∷ xs) = ap (λ (ts : Tokens). record { place = 0; shape = x } ▸ ts) (placed-flat (o + width x) xs)
