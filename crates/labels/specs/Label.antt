-- Document 01, Reading: "Mode labels, their order and families stand in 000." The families are 000's mode enums.
use Rattle.std.specs.Prelude.{ℕ, List, [], ◌∷◌}
use Rattle.text.specs.Bytes.{bytes}
use Rattle.labels.specs.declared.Family.{Family}
use Rattle.labels.specs.declared.Family.TheVariants.{
  AbsorptionMode,
  EliminationMode,
  PeripheralKind,
  DepotMode,
  LagtimeMode,
  CovariateEffect,
  PdMode,
  ProductionMode,
  MetaboliteMode,
  VariabilityEffect,
  VariabilityLevel,
}

-- the families, each at the place that is its mark
abbrev pub families : List Family
families =
    AbsorptionMode
    ∷ EliminationMode
    ∷ PeripheralKind
    ∷ DepotMode
    ∷ LagtimeMode
    ∷ CovariateEffect
    ∷ PdMode
    ∷ ProductionMode
    ∷ MetaboliteMode
    ∷ VariabilityEffect
    ∷ VariabilityLevel
    ∷ []

abbrev pub mark_of : Family → ℕ
mark_of AbsorptionMode = 0
mark_of EliminationMode = 1
mark_of PeripheralKind = 2
mark_of DepotMode = 3
mark_of LagtimeMode = 4
mark_of CovariateEffect = 5
mark_of PdMode = 6
mark_of ProductionMode = 7
mark_of MetaboliteMode = 8
mark_of VariabilityEffect = 9
mark_of VariabilityLevel = 10

-- the keywords have the mark after the families'
abbrev pub keyword_mark : ℕ
keyword_mark = 11

-- a family's labels, in the order that `*` stands for
unfoldable pub labels_of : Family → List (List ℕ)
labels_of AbsorptionMode = bytes "INST" ∷ bytes "FO" ∷ bytes "ZO" ∷ bytes "SEQ-ZO-FO" ∷ bytes "WEIBULL" ∷ []
labels_of EliminationMode = bytes "FO" ∷ bytes "ZO" ∷ bytes "MM" ∷ bytes "MIX-FO-MM" ∷ []
labels_of PeripheralKind = bytes "DRUG" ∷ bytes "MET" ∷ []
labels_of DepotMode = bytes "DEPOT" ∷ bytes "NODEPOT" ∷ []
labels_of LagtimeMode = bytes "OFF" ∷ bytes "ON" ∷ []
labels_of CovariateEffect = bytes "lin" ∷ bytes "piece_lin" ∷ bytes "exp" ∷ bytes "pow" ∷ bytes "cat" ∷ bytes "cat2" ∷ bytes "custom" ∷ []
labels_of PdMode = bytes "LINEAR" ∷ bytes "EMAX" ∷ bytes "SIGMOID" ∷ bytes "STEP" ∷ bytes "LOGLIN" ∷ []
labels_of ProductionMode = bytes "PRODUCTION" ∷ bytes "DEGRADATION" ∷ []
labels_of MetaboliteMode = bytes "BASIC" ∷ bytes "PSC" ∷ []
labels_of VariabilityEffect = bytes "EXP" ∷ bytes "ADD" ∷ bytes "PROP" ∷ bytes "LOG" ∷ bytes "RE_LOG" ∷ []
labels_of VariabilityLevel = bytes "IIV" ∷ bytes "IOV" ∷ []

-- the keywords of the features, in 000's order, and LET's
unfoldable pub keywords : List (List ℕ)
keywords =
    bytes "ABSORPTION"
    ∷ bytes "ELIMINATION"
    ∷ bytes "PERIPHERALS"
    ∷ bytes "TRANSITS"
    ∷ bytes "LAGTIME"
    ∷ bytes "COVARIATE"
    ∷ bytes "ALLOMETRY"
    ∷ bytes "DIRECTEFFECT"
    ∷ bytes "EFFECTCOMP"
    ∷ bytes "INDIRECTEFFECT"
    ∷ bytes "METABOLITE"
    ∷ bytes "IIV"
    ∷ bytes "IOV"
    ∷ bytes "COVARIANCE"
    ∷ bytes "LET"
    ∷ []
