-- Where the names, symbols and values of statements stand in their text: one behind the other, each spelled as the text's bytes at its
-- place.
use Rattle.std.specs.Prelude.{ℕ, ◌+◌, ◌<◌, ◌≤◌, ◌≡◌, Bool, ◌&&◌, List, [], ◌∷◌, ◌++◌, map, ltb, length, take, drop}
use Rattle.text.specs.Lists.{all, gather}
use Rattle.reading.specs.Statement.{Name, Item, Operand, everyone, symbol, names, Statement}
use Rattle.reading.specs.Parts.{
  Part,
  modes_part,
  counts_part,
  estimated_part,
  operand_part,
  name_part,
  values_part,
  operator_part,
  omitted,
  parts_of,
}
use Rattle.reading_laws.specs.WellFormed.{well_formed}

-- The names, symbols and values of parts, of a statement and of statements, in their order.

abbrev pub item_names : List Item → List Name
item_names is = map (λ i. i.name) is

abbrev pub operand_names : Operand → List Name
operand_names everyone = []
operand_names (symbol n) = n ∷ []
operand_names (names ns) = ns

abbrev pub part_names : Part → List Name
part_names (modes_part f ms) = []
part_names (counts_part c) = []
part_names estimated_part = []
part_names (operand_part p) = operand_names p
part_names (name_part n) = n ∷ []
part_names (values_part is) = item_names is
part_names (operator_part op) = []
part_names omitted = []

abbrev pub parts_names : List Part → List Name
parts_names ps = gather part_names ps

abbrev pub statement_names : Statement → List Name
statement_names s = parts_names (parts_of s).arguments

abbrev pub text_names : List Statement → List Name
text_names ss = gather statement_names ss

-- the offset after a name's last byte
abbrev pub end_of : Name → ℕ
end_of n = n.place + length n.spelling

-- The text's bytes at a name's place are the name's, and the text does not end with it: a statement's last token is its `)`.
pub record SpelledIn (text : List ℕ) (n : Name) : Type 0 where
  pub within : end_of n < length text
  pub same : take (length n.spelling) (drop n.place text) ≡ n.spelling

-- Names that are spelled so, the first at an offset or after it, and each at the end of the one before or after it.
pub data StandIn (text : List ℕ) : ℕ → List Name → Type 0 where
  no_name : {o : ℕ} → StandIn text o []
  one_before :
      {o : ℕ} {n : Name} {ns : List Name} → o ≤ n.place → SpelledIn text n → StandIn text (end_of n) ns → StandIn text o (n ∷ ns)

-- A statement as it is read from a text of so many bytes, under a limit for counts: well formed, and each of its names, symbols and values
-- ends before the text does.

abbrev pub ends_before : ℕ → Name → Bool
ends_before size n = ltb (end_of n) size

abbrev pub placed_part : ℕ → Part → Bool
placed_part size p = all (ends_before size) (part_names p)

abbrev pub as_read : ℕ → ℕ → Statement → Bool
as_read limit size s = well_formed limit s && all (placed_part size) (parts_of s).arguments
