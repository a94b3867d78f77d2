-- Document 01, Holding the calls to their word: "Statements are the same when Statement gives equal values once each pair is replaced by the
-- bytes it points to, a symbol never being equal to a name; D has each as often as A." A statement's value is written here by its parts: its
-- keyword, its `?`, and of each argument what it is and its words. Two are the same where these are, which is exactly where they are equal
-- (`same-equal`, `same_self`). Places count, and are forgotten first.
use Rattle.std.specs.Prelude.{ℕ, Bool, true, false, ◌&&◌, List, [], ◌∷◌, map, length}
use Rattle.reading.specs.Statement.{
  Name,
  Kind,
  a_word,
  a_number,
  Item,
  all_modes,
  modes,
  count,
  range,
  counts,
  everyone,
  symbol,
  names,
  multiply,
  add,
  Statement,
}
use Rattle.reading.specs.Parts.{
  Part,
  modes_part,
  counts_part,
  estimated_part,
  operand_part,
  name_part,
  values_part,
  operator_part,
  omitted,
  Parts,
  parts_of,
}
use Rattle.text.specs.Lists.{keep, same_bytes}
use Rattle.resolving.specs.Effects.{optional_number}

-- what an argument is, and then its words
abbrev pub Words : Type 0
Words = List (List ℕ)

abbrev pub name_word : Name → List ℕ
name_word n = n.place ∷ n.spelling

abbrev pub kind_number : Kind → ℕ
kind_number a_word = 0
kind_number a_number = 1

abbrev pub item_word : Item → List ℕ
item_word i = kind_number i.kind ∷ name_word i.name

abbrev pub part_words : Part → Words
part_words (modes_part f all_modes) = (0 ∷ []) ∷ []
part_words (modes_part f (modes ms)) = (1 ∷ []) ∷ ms ∷ []
part_words (counts_part (count n)) = (2 ∷ []) ∷ (n ∷ []) ∷ []
part_words (counts_part (range m n)) = (3 ∷ []) ∷ (m ∷ n ∷ []) ∷ []
part_words (counts_part (counts ns)) = (4 ∷ []) ∷ ns ∷ []
part_words estimated_part = (5 ∷ []) ∷ []
part_words (operand_part everyone) = (6 ∷ []) ∷ []
part_words (operand_part (symbol n)) = (7 ∷ []) ∷ name_word n ∷ []
part_words (operand_part (names ns)) = (8 ∷ []) ∷ map name_word ns
part_words (name_part n) = (9 ∷ []) ∷ name_word n ∷ []
part_words (values_part is) = (10 ∷ []) ∷ map item_word is
part_words (operator_part multiply) = (11 ∷ []) ∷ []
part_words (operator_part add) = (12 ∷ []) ∷ []
part_words omitted = (13 ∷ []) ∷ []

abbrev pub parts_words : Parts → List Words
parts_words p = ((p.keyword ∷ optional_number p.optional ∷ []) ∷ []) ∷ map part_words p.arguments

abbrev pub statement_words : Statement → List Words
statement_words s = parts_words (parts_of s)

-- The same statements, and how often one stands in a list.

abbrev pub same_list : {A : Type 0} → (A → A → Bool) → List A → List A → Bool
same_list same [] [] = true
same_list same [] (y ∷ ys) = false
same_list same (x ∷ xs) [] = false
same_list same (x ∷ xs) (y ∷ ys) = same x y && same_list same xs ys

unfoldable pub same_statement : Statement → Statement → Bool
same_statement s t = same_list (same_list same_bytes) (statement_words s) (statement_words t)

abbrev pub occurrences : Statement → List Statement → ℕ
occurrences s ss = length (keep (same_statement s) ss)
