-- A statement as 32-bit numbers, for programs in other languages. First its keyword's place in the table of keywords (0 ABSORPTION to
-- 13 COVARIANCE, 14 LET), then 1 where it has a `?` and 0 where it has none, then its arguments in the order of their feature, each by a
-- number for its kind and what belongs to that kind:
--
--   `*` for modes, parameters or covariates    0
--   modes                                      1, how many, their places in their family
--   one count                                  2, the count
--   a range                                    3, its two ends
--   a list of counts                           4, how many, the counts
--   N                                          5
--   a symbol                                   6, the offset and the length of its name
--   names                                      7, how many, the offset and the length of each
--   a name alone (of ALLOMETRY or LET)         8, its offset and its length
--   an argument that was left out              9
--   the operator `*`                           10, also where it is not written
--   the operator `+`                           11
--   the values of a LET                        12, how many, of each its kind (0 a word, 1 a number), its offset and its length
use Rattle.std.specs.Prelude.{ℕ, Bool, true, false, List, [], ◌∷◌, ◌++◌, length}
use Rattle.reading.specs.Statement.{
  Name,
  Kind,
  a_word,
  a_number,
  Item,
  Modes,
  all_modes,
  modes,
  Counts,
  count,
  range,
  counts,
  Operand,
  everyone,
  symbol,
  names,
  Operator,
  multiply,
  add,
  Statement,
}
use Rattle.reading.specs.Parts.{
  Part,
  modes_part,
  counts_part,
  estimated_part,
  operand_part,
  name_part,
  values_part,
  operator_part,
  omitted,
  Parts,
  parts_of,
}
use Rattle.reading.specs.Answer.{Answer, accepted, refused}
use Rattle.reading.specs.Read.{read_text}

-- Arguments.

abbrev pub modes_numbers : Modes → List ℕ
modes_numbers all_modes = 0 ∷ []
modes_numbers (modes ms) = 1 ∷ length ms ∷ ms

abbrev pub counts_numbers : Counts → List ℕ
counts_numbers (count v) = 2 ∷ v ∷ []
counts_numbers (range a b) = 3 ∷ a ∷ b ∷ []
counts_numbers (counts vs) = 4 ∷ length vs ∷ vs

abbrev pub pair_numbers : Name → List ℕ
pair_numbers n = n.place ∷ length n.spelling ∷ []

abbrev pub pairs_numbers : List Name → List ℕ
pairs_numbers [] = []
pairs_numbers (n ∷ ns) = pair_numbers n ++ pairs_numbers ns

abbrev pub operand_numbers : Operand → List ℕ
operand_numbers everyone = 0 ∷ []
operand_numbers (symbol n) = 6 ∷ pair_numbers n
operand_numbers (names ns) = 7 ∷ length ns ∷ pairs_numbers ns

abbrev pub kind_number : Kind → ℕ
kind_number a_word = 0
kind_number a_number = 1

abbrev pub item_numbers : Item → List ℕ
item_numbers i = kind_number i.kind ∷ pair_numbers i.name

abbrev pub items_numbers : List Item → List ℕ
items_numbers [] = []
items_numbers (i ∷ is) = item_numbers i ++ items_numbers is

abbrev pub operator_numbers : Operator → List ℕ
operator_numbers multiply = 10 ∷ []
operator_numbers add = 11 ∷ []

abbrev pub part_numbers : Part → List ℕ
part_numbers (modes_part f ms) = modes_numbers ms
part_numbers (counts_part c) = counts_numbers c
part_numbers estimated_part = 5 ∷ []
part_numbers (operand_part p) = operand_numbers p
part_numbers (name_part n) = 8 ∷ pair_numbers n
part_numbers (values_part is) = 12 ∷ length is ∷ items_numbers is
part_numbers (operator_part op) = operator_numbers op
part_numbers omitted = 9 ∷ []

abbrev pub parts_numbers : List Part → List ℕ
parts_numbers [] = []
parts_numbers (p ∷ ps) = part_numbers p ++ parts_numbers ps

-- Statements.

-- a keyword and its `?`
abbrev pub head_numbers : ℕ → Bool → List ℕ
head_numbers k true = k ∷ 1 ∷ []
head_numbers k false = k ∷ 0 ∷ []

abbrev pub taken_numbers : Parts → List ℕ
taken_numbers p = head_numbers p.keyword p.optional ++ parts_numbers p.arguments

unfoldable pub numbers_of : Statement → List ℕ
numbers_of s = taken_numbers (parts_of s)

-- All statements of a text: those of each, one statement after the other, behind how many they are.
abbrev pub counted_numbers : Statement → List ℕ
counted_numbers s = length (numbers_of s) ∷ numbers_of s

unfoldable pub all_numbers_of : List Statement → List ℕ
all_numbers_of [] = []
all_numbers_of (s ∷ ss) = counted_numbers s ++ all_numbers_of ss

abbrev pub all_numbered : Answer (List Statement) → Answer (List ℕ)
all_numbered (accepted ss) = accepted (all_numbers_of ss)
all_numbered (refused n p) = refused n p

-- the numbers of all statements of a text, under a limit for counts
unfoldable pub all_numbering : ℕ → List ℕ → Answer (List ℕ)
all_numbering limit text = all_numbered (read_text limit text)
