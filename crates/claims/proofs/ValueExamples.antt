-- Numbers of the exported Statement with each pair replaced by the bytes that it points to, evaluated: a symbol and a name of the same bytes,
-- modes, counts, names, an argument that is left out, and the values of a LET.
-- Assumes nothing.
use Prim.Native.Nat.{ℕ}
use Prim.Native.String.{String}
use mathlib.Core.Path.{◌≡◌, refl}
use mathlib.Core.List.{List, [], ◌∷◌, map}
use Rattle.text.specs.Bytes.{bytes}
use Rattle.claims.specs.Values.{as_number, as_bytes, Value, replaced, value_in}

-- a text with the numbers of its first statement, and what these come to
record Example : Type 0 where
  text : String
  numbers : List ℕ
  comes_to_lem : Value

abbrev examples : List Example
examples =
    record {
      text = "IIV(@PK,[EXP,ADD])";
      numbers = 11 ∷ 0 ∷ 6 ∷ 5 ∷ 2 ∷ 1 ∷ 2 ∷ 0 ∷ 1 ∷ [];
      comes_to_lem = as_number 11 ∷ as_number 0 ∷ as_number 6 ∷ as_bytes (bytes "PK") ∷ as_number 1 ∷ as_number 2 ∷ as_number 0 ∷ as_number 1 ∷ [];
    }
    ∷ record {
      text = "IIV(PK,[EXP,ADD])";
      numbers = 11 ∷ 0 ∷ 7 ∷ 1 ∷ 4 ∷ 2 ∷ 1 ∷ 2 ∷ 0 ∷ 1 ∷ [];
      comes_to_lem = as_number 11 ∷ as_number 0 ∷ as_number 7 ∷ as_number 1 ∷ as_bytes (bytes "PK") ∷ as_number 1 ∷ as_number 2 ∷ as_number 0 ∷ as_number 1 ∷ [];
    }
    ∷ record {
      text = "COVARIATE?([CL,V],*,exp,+)";
      numbers = 5 ∷ 1 ∷ 7 ∷ 2 ∷ 12 ∷ 2 ∷ 15 ∷ 1 ∷ 0 ∷ 1 ∷ 1 ∷ 2 ∷ 11 ∷ [];
      comes_to_lem =
          as_number 5
          ∷ as_number 1
          ∷ as_number 7
          ∷ as_number 2
          ∷ as_bytes (bytes "CL")
          ∷ as_bytes (bytes "V")
          ∷ as_number 0
          ∷ as_number 1
          ∷ as_number 1
          ∷ as_number 2
          ∷ as_number 11
          ∷ [];
    }
    ∷ record {
      text = "TRANSITS([0,3])";
      numbers = 3 ∷ 0 ∷ 4 ∷ 2 ∷ 0 ∷ 3 ∷ 9 ∷ [];
      comes_to_lem = map as_number (3 ∷ 0 ∷ 4 ∷ 2 ∷ 0 ∷ 3 ∷ 9 ∷ []);
    }
    ∷ record {
      text = "PERIPHERALS(0..2)";
      numbers = 2 ∷ 0 ∷ 3 ∷ 0 ∷ 2 ∷ 9 ∷ [];
      comes_to_lem = map as_number (2 ∷ 0 ∷ 3 ∷ 0 ∷ 2 ∷ 9 ∷ []);
    }
    ∷ record {
      text = "ALLOMETRY(WT,70)";
      numbers = 6 ∷ 0 ∷ 8 ∷ 10 ∷ 2 ∷ 8 ∷ 13 ∷ 2 ∷ [];
      comes_to_lem = as_number 6 ∷ as_number 0 ∷ as_number 8 ∷ as_bytes (bytes "WT") ∷ as_number 8 ∷ as_bytes (bytes "70") ∷ [];
    }
    ∷ record {
      text = "LET(A,[CL,7])";
      numbers = 14 ∷ 0 ∷ 8 ∷ 4 ∷ 1 ∷ 12 ∷ 2 ∷ 0 ∷ 7 ∷ 2 ∷ 1 ∷ 10 ∷ 1 ∷ [];
      comes_to_lem =
          as_number 14
          ∷ as_number 0
          ∷ as_number 8
          ∷ as_bytes (bytes "A")
          ∷ as_number 12
          ∷ as_number 2
          ∷ as_number 0
          ∷ as_bytes (bytes "CL")
          ∷ as_number 1
          ∷ as_bytes (bytes "7")
          ∷ [];
    }
    ∷ []

pub values_checked : map (λ e. value_in (bytes e.text) e.numbers) examples ≡ map (λ e. e.comes_to_lem) examples
unfolding replaced
values_checked = refl
