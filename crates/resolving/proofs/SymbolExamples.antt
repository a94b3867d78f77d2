-- Document 01, Resolving: what each built-in is, role by role, and what a refusal of a symbol, a name or a pair is before it has its
-- statement's index. Evaluated on the definitions.
-- Assumes nothing.
use Prim.Native.Nat.{ℕ}
use Prim.Native.String.{String}
use mathlib.Core.Path.{◌≡◌, refl}
use mathlib.Core.Bool.{false}
use mathlib.Core.List.{List, [], ◌∷◌, map}
use mathlib.Core.Option.{Option, some, none}
use Rattle.text.specs.Bytes.{bytes}
use Rattle.labels.specs.Word.{same_word}
use Rattle.reading.specs.Statement.{Operand, names, modes, multiply, Covariate, feature}
use Rattle.reading.specs.Answer.{Answer, accepted, refused}
use Rattle.resolving.specs.Context.{Context, Binding, Declared, CovariateKind, continuous, categorical, kind_number}
use Rattle.resolving.specs.Builtins.{builtin}
use Rattle.resolving.specs.Operands.{known, entered}
use Rattle.resolving.specs.Brought.{plain_name, bring}

abbrev bound : String → Binding
bound w = record { role = bytes w; variable = bytes w }

abbrev declared_as : CovariateKind → String → Declared
declared_as k w = record { name = bytes w; kind = k }

-- every role that a built-in asks for, and one that none does, each bound to a parameter of its own name
abbrev every_role_once : List String
every_role_once =
    "ka" ∷ "n" ∷ "mtt" ∷ "mat" ∷ "cv2" ∷ "lagtime" ∷ "alag" ∷ "tlag" ∷ "v" ∷ "v1" ∷ "v2" ∷ "v3" ∷ "q" ∷ "q2" ∷ "q3" ∷ "cl" ∷ "f" ∷ "x" ∷ []

abbrev roomy : Context
roomy =
    record {
      parameters = map bytes every_role_once;
      iiv = bytes "CL" ∷ bytes "ka" ∷ bytes "WT" ∷ [];
      template = some (map bound every_role_once);
      block = some (declared_as continuous "WT" ∷ declared_as categorical "SEX" ∷ declared_as continuous "AGE" ∷ []);
      columns = bytes "ID" ∷ [];
    }

-- one without a template and without a block
abbrev bare : Context
bare = record { parameters = map bytes every_role_once; iiv = bytes "CL" ∷ []; template = none; block = none; columns = bytes "ID" ∷ [] }

abbrev some_of : List String → Option (List (List ℕ))
some_of ws = some (map bytes ws)

-- "the built-ins of `builtin`". PK_IIV has the IIV parameters among PK's, and "other names match exactly". "PD and PD_IIV are empty."
pub builtins_checked :
    map (λ w. builtin roomy (bytes w))
    ("IIV" ∷ "PK" ∷ "PK_IIV" ∷ "PD" ∷ "PD_IIV" ∷ "ABSORPTION" ∷ "ELIMINATION" ∷ "DISTRIBUTION" ∷ "BIOAVAIL" ∷ "CONTINUOUS" ∷ "CATEGORICAL"
    ∷ "KA" ∷ [])
    ≡ some_of ("CL" ∷ "ka" ∷ "WT" ∷ [])
    ∷ some_of every_role_once
    ∷ some_of ("ka" ∷ [])
    ∷ some_of []
    ∷ some_of []
    ∷ some_of ("ka" ∷ "n" ∷ "mtt" ∷ "mat" ∷ "cv2" ∷ "lagtime" ∷ "alag" ∷ "tlag" ∷ [])
    ∷ some_of ("cl" ∷ [])
    ∷ some_of ("v" ∷ "v1" ∷ "v2" ∷ "v3" ∷ "q" ∷ "q2" ∷ "q3" ∷ [])
    ∷ some_of ("f" ∷ [])
    ∷ some_of ("WT" ∷ "AGE" ∷ [])
    ∷ some_of ("SEX" ∷ [])
    ∷ none
    ∷ []
unfolding builtin same_word
builtins_checked = refl

-- 14: "unknown symbol, or one whose template or block is missing". IIV, PD and PD_IIV need neither.
pub bare_checked :
    map (λ w. builtin bare (bytes w))
    ("IIV" ∷ "PK" ∷ "PK_IIV" ∷ "PD" ∷ "PD_IIV" ∷ "ABSORPTION" ∷ "ELIMINATION" ∷ "DISTRIBUTION" ∷ "BIOAVAIL" ∷ "CONTINUOUS" ∷ "CATEGORICAL" ∷ [])
    ≡ some_of ("CL" ∷ []) ∷ none ∷ none ∷ some_of [] ∷ some_of [] ∷ none ∷ none ∷ none ∷ none ∷ none ∷ none ∷ []
unfolding builtin same_word
bare_checked = refl

-- 14, 15 and 16 have place 0 until statements are taken in order.
pub unknown_symbol : known none ≡ refused 14 0
unknown_symbol = refl

pub unknown_name : entered none ≡ refused 15 0
unknown_name = refl

abbrev called : String → Operand
called w = names (plain_name (bytes w) ∷ [])

pub wrong_kind : bring roomy (builtin roomy) (feature (Covariate false (called "cl") (called "SEX") (modes (0 ∷ [])) multiply)) ≡ refused 16 0
unfolding bring
wrong_kind = refl

-- A name of the ground text stands at no place of the text that was read.
pub no_place : plain_name (bytes "CL") ≡ record { place = 0; spelling = bytes "CL" }
no_place = refl

-- "a kind, 0 continuous or 1 categorical"
pub kinds_checked : map kind_number (continuous ∷ categorical ∷ []) ≡ 0 ∷ 1 ∷ []
kinds_checked = refl
