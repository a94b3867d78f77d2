-- Document 01, Printing: "Printing uses no spaces. Statements are joined by `;`, arguments by `,`. Keywords, with their `?`, and N are upper
-- case, modes print their label, names and symbols stand as written, counts print without leading zeros. A list of one name or one mode
-- prints bare; a list of counts keeps its brackets; a range is kept and printed as its two ends with `..`. Of the operators only `+`
-- prints." A statement is printed as tokens, and the text is their bytes with nothing between them.
use Rattle.std.specs.Prelude.{ℕ, Bool, true, false, cond, List, [], ◌∷◌, ◌++◌, map, get_or}
use Prim.Native.Char.{Char, code}
use Prim.Native.String.{String}
use Rattle.text.specs.Bytes.{bytes}
use Rattle.tokens.specs.Token.{Shape, word, number, mark}
use Rattle.tokens.specs.Spelling.{is_number, spell_all}
use Rattle.counts.specs.Decimal.{digits_of}
use Rattle.labels.specs.declared.Family.{Family}
use Rattle.labels.specs.Label.{labels_of, keywords}
use Rattle.reading.specs.Statement.{
  Name,
  Item,
  Modes,
  all_modes,
  modes,
  Counts,
  count,
  range,
  counts,
  Operand,
  everyone,
  symbol,
  names,
  Operator,
  multiply,
  add,
  Statement,
}
use Rattle.reading.specs.Parts.{
  Part,
  modes_part,
  counts_part,
  estimated_part,
  operand_part,
  name_part,
  values_part,
  operator_part,
  omitted,
  Parts,
  parts_of,
}

abbrev pub sign : Char → Shape
sign c = mark (code c)

abbrev pub word_of : String → Shape
word_of s = word (bytes s)

-- a name as it is written, which may be a number
abbrev pub name_shape : Name → Shape
name_shape n = cond (is_number n.spelling) (number n.spelling) (word n.spelling)

abbrev pub label_shape : Family → ℕ → Shape
label_shape f m = word (get_or (labels_of f) m [])

abbrev pub count_shape : ℕ → Shape
count_shape v = number (digits_of v)

-- a list's entries, and arguments, with a `,` between two
abbrev pub entry_shapes : List Shape → List Shape
entry_shapes [] = []
entry_shapes (x ∷ []) = x ∷ []
entry_shapes (x ∷ y ∷ ys) = x ∷ sign "," ∷ entry_shapes (y ∷ ys)

abbrev pub argument_shapes : List (List Shape) → List Shape
argument_shapes [] = []
argument_shapes (a ∷ []) = a
argument_shapes (a ∷ b ∷ cs) = a ++ sign "," ∷ argument_shapes (b ∷ cs)

abbrev pub bracketed : List Shape → List Shape
bracketed xs = sign "[" ∷ entry_shapes xs ++ sign "]" ∷ []

-- "A list of one name or one mode prints bare"
abbrev pub bare_one : List Shape → List Shape
bare_one [] = bracketed []
bare_one (x ∷ []) = x ∷ []
bare_one (x ∷ y ∷ ys) = bracketed (x ∷ y ∷ ys)

-- Arguments.

abbrev pub modes_shapes : Family → Modes → List Shape
modes_shapes f all_modes = sign "*" ∷ []
modes_shapes f (modes ms) = bare_one (map (label_shape f) ms)

abbrev pub counts_shapes : Counts → List Shape
counts_shapes (count v) = count_shape v ∷ []
counts_shapes (range a b) = count_shape a ∷ sign "." ∷ count_shape b ∷ []
counts_shapes (counts vs) = bracketed (map count_shape vs)

abbrev pub operand_shapes : Operand → List Shape
operand_shapes everyone = sign "*" ∷ []
operand_shapes (symbol n) = sign "@" ∷ word n.spelling ∷ []
operand_shapes (names ns) = bare_one (map name_shape ns)

-- "Of the operators only `+` prints"
abbrev pub operator_shapes : Operator → List (List Shape)
operator_shapes multiply = []
operator_shapes add = (sign "+" ∷ []) ∷ []

-- a word or a number of a LET
abbrev pub item_shape : Item → Shape
item_shape i = name_shape i.name

-- what a part prints as: one argument, or none where it was left out
abbrev pub part_shapes : Part → List (List Shape)
part_shapes (modes_part f ms) = modes_shapes f ms ∷ []
part_shapes (counts_part c) = counts_shapes c ∷ []
part_shapes estimated_part = (word_of "N" ∷ []) ∷ []
part_shapes (operand_part p) = operand_shapes p ∷ []
part_shapes (name_part n) = (name_shape n ∷ []) ∷ []
part_shapes (values_part is) = bare_one (map item_shape is) ∷ []
part_shapes (operator_part op) = operator_shapes op
part_shapes omitted = []

abbrev pub parts_shapes : List Part → List (List Shape)
parts_shapes [] = []
parts_shapes (p ∷ ps) = part_shapes p ++ parts_shapes ps

-- Statements, and a text.

-- a keyword with its `?` and its arguments in their parentheses
abbrev pub question_mark : Bool → List Shape
question_mark true = sign "?" ∷ []
question_mark false = []

abbrev pub call_shapes : List ℕ → Bool → List (List Shape) → List Shape
call_shapes k m args = word k ∷ question_mark m ++ sign "(" ∷ argument_shapes args ++ sign ")" ∷ []

-- a keyword as it is printed
abbrev pub keyword_at : ℕ → List ℕ
keyword_at k = get_or keywords k []

abbrev pub taken_shapes : Parts → List Shape
taken_shapes p = call_shapes (keyword_at p.keyword) p.optional (parts_shapes p.arguments)

unfoldable pub statement_shapes : Statement → List Shape
statement_shapes s = taken_shapes (parts_of s)

unfoldable pub text_shapes : List Statement → List Shape
text_shapes [] = []
text_shapes (s ∷ []) = statement_shapes s
text_shapes (s ∷ t ∷ ss) = statement_shapes s ++ sign ";" ∷ text_shapes (t ∷ ss)

-- the canonical text of statements
abbrev pub canonical : List Statement → List ℕ
canonical ss = spell_all (text_shapes ss)
