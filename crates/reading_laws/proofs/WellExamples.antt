-- The tests of well formed statements, evaluated: statements that a text can be read as, and for each rule one that breaks it.
-- Assumes nothing.
use Prim.Native.String.{String}
use mathlib.Core.Path.{◌≡◌, refl}
use mathlib.Core.Bool.{true, false, not}
use mathlib.Core.List.{List, [], ◌∷◌}
use mathlib.Core.Option.{some, none}
use lib.ListN.{replicate}
use Rattle.text.specs.Bytes.{bytes}
use Rattle.tokens.specs.Class.{class_of}
use Rattle.tokens.specs.Lex.{fraction, number_rest}
use Rattle.text.specs.Lists.{all}
use Rattle.labels.specs.Label.{labels_of}
use Rattle.reading.specs.Statement.{
  Name,
  Kind,
  a_word,
  a_number,
  Item,
  all_modes,
  modes,
  count,
  range,
  counts,
  estimated,
  counted,
  everyone,
  symbol,
  names,
  multiply,
  Absorption,
  Peripherals,
  Transits,
  Covariate,
  Allometry,
  Iiv,
  Statement,
  Let,
  feature,
}
use Rattle.reading.specs.Parts.{feature_parts}
use Rattle.reading_laws.specs.WellFormed.{well_formed}

abbrev named : String → Name
named s = record { place = 0; spelling = bytes s }

abbrev valued : Kind → String → Item
valued k s = record { kind = k; name = named s }

abbrev well : List Statement
well =
    Let (named "X") (valued a_word "CL" ∷ valued a_number "0.5" ∷ [])
    ∷ feature (Absorption all_modes)
    ∷ feature (Absorption (modes (4 ∷ 0 ∷ [])))
    ∷ feature (Peripherals (count 64) none)
    ∷ feature (Peripherals (range 2 2) (some all_modes))
    ∷ feature (Peripherals (counts (replicate 64 1)) none)
    ∷ feature (Transits estimated none)
    ∷ feature (Transits (counted (count 0)) (some (modes (1 ∷ []))))
    ∷ feature (Covariate true everyone (symbol (named "X")) all_modes multiply)
    ∷ feature (Covariate false (names (named "CL" ∷ named "1" ∷ [])) everyone (modes (6 ∷ [])) multiply)
    ∷ feature (Allometry (named "WT") (some (named "70")))
    ∷ []

-- a name that is no word or no number, a list of none or of 65, a mode that is no place or stands twice, a count above the limit, a range
-- backwards, N with a second argument, `*` for the effects of a COVARIATE without `?`
abbrev broken : List Statement
broken =
    Let (named "1X") (valued a_word "CL" ∷ [])
    ∷ Let (named "X") (valued a_number "CL" ∷ [])
    ∷ Let (named "X") []
    ∷ Let (named "X") (replicate 65 (valued a_word "CL"))
    ∷ feature (Iiv false (symbol (named "@X")) all_modes)
    ∷ feature (Iiv false (names (named "1." ∷ [])) all_modes)
    ∷ feature (Iiv false (names []) all_modes)
    ∷ feature (Absorption (modes []))
    ∷ feature (Absorption (modes (5 ∷ [])))
    ∷ feature (Absorption (modes (0 ∷ 1 ∷ 0 ∷ [])))
    ∷ feature (Peripherals (count 65) none)
    ∷ feature (Peripherals (range 2 1) none)
    ∷ feature (Peripherals (range 2 65) none)
    ∷ feature (Peripherals (counts []) none)
    ∷ feature (Peripherals (counts (replicate 65 1)) none)
    ∷ feature (Transits estimated (some all_modes))
    ∷ feature (Covariate false everyone everyone all_modes multiply)
    ∷ feature (Allometry (named "70") none)
    ∷ feature (Allometry (named "WT") (some (named "WT")))
    ∷ []

pub all_well : all (well_formed 64) well ≡ true
unfolding feature_parts labels_of class_of number_rest fraction
all_well = refl

pub all_broken : all (λ s. not (well_formed 64 s)) broken ≡ true
unfolding feature_parts labels_of class_of number_rest fraction
all_broken = refl
