-- A statement taken apart: its keyword, whether it has its `?`, and its arguments in their order, whatever the feature (000,
-- `build_feature`). What is said of a statement by its arguments alone, as its canonical text and its numbers are, goes over its parts.
use Rattle.std.specs.Prelude.{ℕ, Bool, false, List, [], ◌∷◌}
use Rattle.std.proofs.Math.Option.{Option, some, none}
use Rattle.labels.specs.declared.Family.{Family}
use Rattle.labels.specs.declared.Family.TheVariants.{
  AbsorptionMode,
  EliminationMode,
  PeripheralKind,
  DepotMode,
  LagtimeMode,
  CovariateEffect,
  PdMode,
  ProductionMode,
  MetaboliteMode,
  VariabilityEffect,
  VariabilityLevel,
}
use Rattle.reading.specs.Statement.{
  Name,
  Item,
  Modes,
  Counts,
  TransitCounts,
  estimated,
  counted,
  Operand,
  Operator,
  Feature,
  Absorption,
  Elimination,
  Peripherals,
  Transits,
  Lagtime,
  Covariate,
  Allometry,
  DirectEffect,
  EffectComp,
  IndirectEffect,
  Metabolite,
  Iiv,
  Iov,
  Covariance,
  Statement,
  Let,
  feature,
}

-- An argument of a statement.
pub data Part : Type 0 where
  modes_part : Family → Modes → Part
  counts_part : Counts → Part
  -- the N of TRANSITS
  estimated_part : Part
  operand_part : Operand → Part
  name_part : Name → Part
  -- the values of a LET
  values_part : List Item → Part
  operator_part : Operator → Part
  -- one that may be left out, and is
  omitted : Part

-- The keyword is told by its place in `keywords`.
pub record Parts : Type 0 where
  pub keyword : ℕ
  pub optional : Bool
  pub arguments : List Part

abbrev pub transits_part : TransitCounts → Part
transits_part estimated = estimated_part
transits_part (counted c) = counts_part c

-- an argument that may be left out
abbrev pub some_part : {A : Type 0} → (A → Part) → Option A → Part
some_part p none = omitted
some_part p (some x) = p x

abbrev pub taken : ℕ → Bool → List Part → Parts
taken k m ps = record { keyword = k; optional = m; arguments = ps }

unfoldable pub feature_parts : Feature → Parts
feature_parts (Absorption ms) = taken 0 false (modes_part AbsorptionMode ms ∷ [])
feature_parts (Elimination ms) = taken 1 false (modes_part EliminationMode ms ∷ [])
feature_parts (Peripherals c ms) = taken 2 false (counts_part c ∷ some_part (modes_part PeripheralKind) ms ∷ [])
feature_parts (Transits c ms) = taken 3 false (transits_part c ∷ some_part (modes_part DepotMode) ms ∷ [])
feature_parts (Lagtime ms) = taken 4 false (modes_part LagtimeMode ms ∷ [])
feature_parts (Covariate m ps cs es op) =
    taken 5 m (operand_part ps ∷ operand_part cs ∷ modes_part CovariateEffect es ∷ operator_part op ∷ [])
feature_parts (Allometry n r) = taken 6 false (name_part n ∷ some_part name_part r ∷ [])
feature_parts (DirectEffect ms) = taken 7 false (modes_part PdMode ms ∷ [])
feature_parts (EffectComp ms) = taken 8 false (modes_part PdMode ms ∷ [])
feature_parts (IndirectEffect ms ps) = taken 9 false (modes_part PdMode ms ∷ modes_part ProductionMode ps ∷ [])
feature_parts (Metabolite ms) = taken 10 false (modes_part MetaboliteMode ms ∷ [])
feature_parts (Iiv m ps es) = taken 11 m (operand_part ps ∷ modes_part VariabilityEffect es ∷ [])
feature_parts (Iov m ps es) = taken 12 m (operand_part ps ∷ modes_part VariabilityEffect es ∷ [])
feature_parts (Covariance m ls ps) = taken 13 m (modes_part VariabilityLevel ls ∷ operand_part ps ∷ [])

unfoldable pub parts_of : Statement → Parts
parts_of (Let n is) = taken 14 false (name_part n ∷ values_part is ∷ [])
parts_of (feature f) = feature_parts f
