-- Document 01, Resolving: "Each resolved list keeps first occurrences. Each name in one, written or brought by a symbol or `*`, is held by 15
-- to the list that written names are held to there". What is resolved is a list of indexes, each that of its name's first entry. A fault's
-- place, the statement's index, is put in where statements are taken in order (Brought).
use Rattle.std.specs.Prelude.{ℕ, List, [], ◌∷◌, map, eqb}
use Rattle.std.proofs.Math.Option.{Option, some, none}
use Rattle.reading.specs.Statement.{Operand, everyone, symbol, names}
use Rattle.reading.specs.Answer.{Answer, accepted, refused, ◌>>=◌}
use Rattle.text.specs.Lists.{firsts, place_in, same_bytes}
use Rattle.resolving.specs.Faults.{unknown_symbol, unknown_name}
use Rattle.resolving.specs.Context.{Context, covariates}
use Rattle.resolving.specs.Symbols.{Meaning}

-- 14: "unknown symbol, or one whose template or block is missing"
abbrev pub known : Option (List (List ℕ)) → Answer (List (List ℕ))
known none = refused unknown_symbol 0
known (some ws) = accepted ws

-- an operand's names, where `*` has these
abbrev pub names_of : Meaning → Answer (List (List ℕ)) → Operand → Answer (List (List ℕ))
names_of look star everyone = star
names_of look star (symbol n) = known (look n.spelling)
names_of look star (names ns) = accepted (map (λ n. n.spelling) ns)

-- 15: "name not in the model"
abbrev pub entered : Option ℕ → Answer ℕ
entered none = refused unknown_name 0
entered (some i) = accepted i

abbrev pub entry_of : List (List ℕ) → List ℕ → Answer ℕ
entry_of list w = entered (place_in (same_bytes w) list)

abbrev pub entries_of : List (List ℕ) → List (List ℕ) → Answer (List ℕ)
entries_of list [] = accepted []
entries_of list (w ∷ ws) = do
  i ← entry_of list w
  is ← entries_of list ws
  accepted (i ∷ is)

-- names held to a list, and first occurrences: equal names have one index
abbrev pub held : List (List ℕ) → Answer (List (List ℕ)) → Answer (List ℕ)
held list ws = do
  vs ← ws
  is ← entries_of list vs
  accepted (firsts eqb is)

-- "Parameter `*` looks up PK for COVARIATE and IIV, and IIV for IOV and COVARIANCE, so a LET of that name changes `*`."
abbrev pub parameters_of : Context → Meaning → List ℕ → Operand → Answer (List ℕ)
parameters_of c look star o = held c.parameters (names_of look (known (look star)) o)

-- "Covariate `*` is every declared covariate, or the data columns where there is no block."
abbrev pub covariates_of : Context → Meaning → Operand → Answer (List ℕ)
covariates_of c look o = held (covariates c) (names_of look (accepted (covariates c)) o)
