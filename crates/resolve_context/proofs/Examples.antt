-- Document 01's context K as it is handed over, and runs that are refused, evaluated.
-- Assumes nothing.
use Prim.Native.Nat.{ℕ}
use mathlib.Core.Path.{◌≡◌, refl}
use mathlib.Core.Bool.{true, false}
use mathlib.Core.List.{List, [], ◌∷◌}
use mathlib.Core.Option.{some}
use Rattle.text.specs.Bytes.{bytes}
use Rattle.tokens.specs.Class.{class_of}
use Rattle.tokens.specs.Lex.{number_rest}
use Rattle.resolving.specs.Context.{continuous, categorical}
use Rattle.resolving.specs.Handed.{is_run, is_handed, given_in, handed_context, pairs_at, bindings_at, declared_at}

abbrev names : List ℕ
names = bytes "clCLvVkaKAWTSEX"

abbrev run : List ℕ
run =
    3 ∷ 2 ∷ 3 ∷ 2 ∷ 0 ∷ 1 ∷ 1
    ∷ 2 ∷ 2 ∷ 5 ∷ 1 ∷ 8 ∷ 2
    ∷ 2 ∷ 2 ∷ 5 ∷ 1
    ∷ 0 ∷ 2 ∷ 2 ∷ 2 ∷ 4 ∷ 1 ∷ 5 ∷ 1 ∷ 6 ∷ 2 ∷ 8 ∷ 2
    ∷ 10 ∷ 2 ∷ 0 ∷ 12 ∷ 3 ∷ 1 ∷ []

stands : is_handed names run ≡ true
unfolding is_handed is_run given_in pairs_at bindings_at declared_at class_of number_rest
stands = refl

is_K :
    handed_context names run
    ≡ record {
      parameters = bytes "CL" ∷ bytes "V" ∷ bytes "KA" ∷ [];
      iiv = bytes "CL" ∷ bytes "V" ∷ [];
      template =
          some
          (record { role = bytes "cl"; variable = bytes "CL" }
          ∷ record { role = bytes "v"; variable = bytes "V" }
          ∷ record { role = bytes "ka"; variable = bytes "KA" }
          ∷ []);
      block = some (record { name = bytes "WT"; kind = continuous } ∷ record { name = bytes "SEX"; kind = categorical } ∷ []);
      columns = [];
    }
unfolding handed_context given_in pairs_at bindings_at declared_at
is_K = refl

-- one number more than the run says, a mark of 2, a kind of 2
longer : is_handed (bytes "A") (1 ∷ 0 ∷ 0 ∷ 0 ∷ 0 ∷ 0 ∷ 0 ∷ 0 ∷ 1 ∷ 0 ∷ []) ≡ false
unfolding is_handed is_run given_in pairs_at bindings_at declared_at class_of number_rest
longer = refl

wrong-mark : is_handed (bytes "A") (1 ∷ 0 ∷ 0 ∷ 0 ∷ 0 ∷ 0 ∷ 2 ∷ 0 ∷ 1 ∷ []) ≡ false
unfolding is_handed is_run given_in pairs_at bindings_at declared_at class_of number_rest
wrong-mark = refl

wrong_kind : is_handed (bytes "A") (0 ∷ 0 ∷ 0 ∷ 1 ∷ 0 ∷ 0 ∷ 1 ∷ 0 ∷ 1 ∷ 2 ∷ []) ≡ false
unfolding is_handed is_run given_in pairs_at bindings_at declared_at class_of number_rest
wrong_kind = refl

no_mark : is_handed (bytes "A") (0 ∷ 0 ∷ 0 ∷ 1 ∷ 0 ∷ 0 ∷ 0 ∷ 0 ∷ 1 ∷ 0 ∷ []) ≡ false
unfolding is_handed is_run given_in pairs_at bindings_at declared_at class_of number_rest
no_mark = refl
