-- The numbers of the entries of a list: of names their pairs, of a LET's values the kind before the pair, of counts the counts.
use Rattle.std.specs.Prelude.{ℕ, List, [], ◌∷◌, ◌++◌}
use Rattle.reading.specs.Statement.{Item}
use Rattle.canonical.specs.Numbers.{pair_numbers, item_numbers, parts_numbers, taken_numbers}
use Rattle.read_forms.specs.Forms.{count_for}
use Rattle.read_parts.specs.declared.Part.{Part}
use Rattle.read_parts.specs.declared.Parts.{Parts}
use Rattle.read_parts.specs.Meaning.{part_in, parts_in}
use Rattle.numbers_statement.specs.declared.Entry.{Entry}
use Rattle.numbers_statement.specs.declared.Entry.TheVariants.{Pair, Value, Count}

abbrev pub entry_numbers : Entry → Item → List ℕ
entry_numbers Pair i = pair_numbers i.name
entry_numbers Value i = item_numbers i
entry_numbers Count i = count_for i ∷ []

abbrev pub entries_numbers : Entry → List Item → List ℕ
entries_numbers e [] = []
entries_numbers e (i ∷ is) = entry_numbers e i ++ entries_numbers e is

-- the numbers of an argument of a form, and of all of it
abbrev pub numbers_in : List ℕ → Part → List ℕ
numbers_in s p = parts_numbers (part_in s p)

abbrev pub taken_in : List ℕ → Parts → List ℕ
taken_in s r = taken_numbers (parts_in s r)
