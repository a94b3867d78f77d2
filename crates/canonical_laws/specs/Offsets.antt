-- Which of a statement's numbers are offsets in its text: of a symbol, a name alone, names and the values of a LET the number before each
-- length. Where the text stands so many bytes further on, these grow by as many, all others stay, and so does how many there are.
use Rattle.std.specs.Prelude.{ℕ, ◌+◌, Bool, true, false, cond, List, [], ◌∷◌, ◌++◌, map}
use Rattle.reading.specs.Statement.{Name, Item, Operand, everyone, symbol, names, Statement}
use Rattle.reading.specs.Parts.{
  Part,
  modes_part,
  counts_part,
  estimated_part,
  operand_part,
  name_part,
  values_part,
  operator_part,
  omitted,
  parts_of,
}
use Rattle.canonical.specs.Numbers.{modes_numbers, counts_numbers, operator_numbers, head_numbers}

-- Of each number, whether it is an offset.

abbrev pub no_offsets : List ℕ → List Bool
no_offsets ns = map (λ n. false) ns

-- a name's offset and its length; a value's kind, its offset and its length
abbrev pub pairs_offsets : List Name → List Bool
pairs_offsets [] = []
pairs_offsets (n ∷ ns) = true ∷ false ∷ pairs_offsets ns

abbrev pub values_offsets : List Item → List Bool
values_offsets [] = []
values_offsets (i ∷ is) = false ∷ true ∷ false ∷ values_offsets is

abbrev pub operand_offsets : Operand → List Bool
operand_offsets everyone = false ∷ []
operand_offsets (symbol n) = false ∷ pairs_offsets (n ∷ [])
operand_offsets (names ns) = false ∷ false ∷ pairs_offsets ns

abbrev pub part_offsets : Part → List Bool
part_offsets (modes_part f ms) = no_offsets (modes_numbers ms)
part_offsets (counts_part c) = no_offsets (counts_numbers c)
part_offsets estimated_part = false ∷ []
part_offsets (operand_part p) = operand_offsets p
part_offsets (name_part n) = false ∷ pairs_offsets (n ∷ [])
part_offsets (values_part is) = false ∷ false ∷ values_offsets is
part_offsets (operator_part op) = no_offsets (operator_numbers op)
part_offsets omitted = false ∷ []

abbrev pub parts_offsets : List Part → List Bool
parts_offsets [] = []
parts_offsets (p ∷ ps) = part_offsets p ++ parts_offsets ps

-- a statement's keyword, its `?`, and its arguments
abbrev pub offsets_of : Statement → List Bool
offsets_of s = no_offsets (head_numbers (parts_of s).keyword (parts_of s).optional) ++ parts_offsets (parts_of s).arguments

-- numbers of which those that are offsets grow
abbrev pub raised : ℕ → List Bool → List ℕ → List ℕ
raised d [] ns = ns
raised d (t ∷ ts) [] = []
raised d (t ∷ ts) (n ∷ ns) = cond t (n + d) n ∷ raised d ts ns
