-- Document 01, The calls offered: "each name as an (offset, length) pair into the text, the pairs of one list sorted by offset." And Reading:
-- "names and counts keep theirs". The entries of a list as they stand in an array.
use Rattle.std.specs.Prelude.{ℕ, ◌+◌, Bool, true, ◌&&◌, List, [], ◌∷◌, map, leb, length}
use Rattle.reading.specs.Statement as statement
use Rattle.reading.specs.Statement.{a_word, a_number}
use Rattle.read_forms.specs.declared.Kind.{Kind}
use Rattle.read_forms.specs.declared.Kind.TheVariants.{Word, Number}
use Rattle.read_forms.specs.declared.Name.{Name}
use Rattle.read_forms.specs.declared.Item.{Item}

-- an entry by its kind and its pair
abbrev pub kind_for : statement.Kind → Kind
kind_for a_word = Word
kind_for a_number = Number

abbrev pub pair_of : statement.Name → Name
pair_of n = record { offset = n.place; length = length n.spelling }

abbrev pub item_for : statement.Item → Item
item_for i = record { kind = kind_for i.kind; name = pair_of i.name }

abbrev pub items_for : List statement.Item → List Item
items_for is = map item_for is

-- the offset behind an entry
abbrev pub end_of : Item → ℕ
end_of i = i.name.offset + i.name.length

-- each entry ends before the next starts, and the last ends within so many bytes
abbrev pub in_order : ℕ → List Item → Bool
in_order n [] = true
in_order n (a ∷ []) = leb (end_of a) n
in_order n (a ∷ b ∷ cs) = leb (end_of a) b.name.offset && in_order n (b ∷ cs)
