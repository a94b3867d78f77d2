-- The bytes of names at indexes of a list, and of a ground statement that has them and modes.
use Rattle.std.specs.Prelude.{ℕ, Bool, true, false, not, List, [], ◌++◌, map, get_or}
use Rattle.text.specs.Bytes.{bytes}
use Rattle.tokens.specs.Token.{Shape}
use Rattle.tokens.specs.Spelling.{spell_all}
use Rattle.labels.specs.declared.Family.{Family}
use Rattle.labels.specs.Label.{keywords}
use Rattle.reading.specs.Statement.{Modes}
use Rattle.canonical.specs.Canonical.{name_shape, entry_shapes, operand_shapes, modes_shapes}
use Rattle.resolving.specs.Brought.{plain_name, listed}
use Rattle.print_statements.specs.Bytes.{head_of}

abbrev pub shape_at : List (List ℕ) → ℕ → Shape
shape_at list i = name_shape (plain_name (get_or list i []))

-- with a `,` between two
abbrev pub listed_bytes : List (List ℕ) → List ℕ → List ℕ
listed_bytes list is = spell_all (entry_shapes (map (shape_at list) is))

-- one of two arguments: the names, or the modes
abbrev pub either_bytes : List (List ℕ) → List ℕ → Family → Modes → Bool → List ℕ
either_bytes list is f ms true = spell_all (operand_shapes (listed list is))
either_bytes list is f ms false = spell_all (modes_shapes f ms)

abbrev pub variable_bytes : ℕ → Bool → List (List ℕ) → List ℕ → Family → Modes → Bool → List ℕ
variable_bytes k m list is f ms named =
    head_of (get_or keywords k []) m
    ++ (either_bytes list is f ms named ++ (bytes "," ++ (either_bytes list is f ms (not named) ++ bytes ")")))
