-- The bytes of a statement, piece by piece: its keyword, and each of its arguments behind the one before.
use Rattle.std.specs.Prelude.{ℕ, Bool, true, false, List, [], ◌∷◌, ◌++◌}
use Rattle.text.specs.Bytes.{bytes}
use Rattle.tokens.specs.Token.{Shape}
use Rattle.tokens.specs.Spelling.{spell_all}
use Rattle.canonical.specs.Canonical.{sign, argument_shapes, question_mark, parts_shapes, taken_shapes}
use Rattle.read_parts.specs.declared.Part.{Part}
use Rattle.read_parts.specs.declared.Parts.{Parts}
use Rattle.read_parts.specs.Meaning.{part_in, parts_in}

-- a keyword, its `?` and its `(`
abbrev pub head_of : List ℕ → Bool → List ℕ
head_of k m = k ++ (spell_all (question_mark m) ++ bytes "(")

-- the arguments behind one, each behind its `,`
abbrev pub behind : List (List Shape) → List Shape
behind [] = []
behind (a ∷ bs) = sign "," ∷ argument_shapes (a ∷ bs)

abbrev pub shapes_in : List ℕ → Part → List (List Shape)
shapes_in s p = parts_shapes (part_in s p)

-- whether there is an argument to print
abbrev pub some_shapes : List (List Shape) → Bool
some_shapes [] = false
some_shapes (a ∷ bs) = true

-- all of a statement that was taken apart
abbrev pub bytes_of : List ℕ → Parts → List ℕ
bytes_of s r = spell_all (taken_shapes (parts_in s r))
