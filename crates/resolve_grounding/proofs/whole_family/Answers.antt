-- `resolve_grounding::whole_family` meets its contract, family by family.
-- Assumes nothing.
use mathlib.Core.Path.{◌≡◌, sym, ap}
use lib.ListN.{length}
use Rattle.text.specs.Bytes.{count_up}
use Rattle.read_packs.specs.Packs.{places, unpack}
use Rattle.labels.specs.declared.Family.{Family}
use Rattle.labels.specs.Label.{labels_of}
use Rattle.resolve_grounding.proofs.whole_family.Goals as goal

made : {f g : Family} → f ≡ g → count_up 0 (length (labels_of g)) ≡ count_up 0 (length (labels_of f))
made e = sym (ap (λ (x : Family). count_up 0 (length (labels_of x))) e)

pub returns-in-AbsorptionMode : goal.returns-in-AbsorptionMode
unfolding places unpack labels_of
returns-in-AbsorptionMode c = made c.in-AbsorptionMode.is

pub returns-in-EliminationMode : goal.returns-in-EliminationMode
unfolding places unpack labels_of
returns-in-EliminationMode c = made c.in-EliminationMode.is

pub returns-in-PeripheralKind : goal.returns-in-PeripheralKind
unfolding places unpack labels_of
returns-in-PeripheralKind c = made c.in-PeripheralKind.is

pub returns-in-DepotMode : goal.returns-in-DepotMode
unfolding places unpack labels_of
returns-in-DepotMode c = made c.in-DepotMode.is

pub returns-in-LagtimeMode : goal.returns-in-LagtimeMode
unfolding places unpack labels_of
returns-in-LagtimeMode c = made c.in-LagtimeMode.is

pub returns-in-CovariateEffect : goal.returns-in-CovariateEffect
unfolding places unpack labels_of
returns-in-CovariateEffect c = made c.in-CovariateEffect.is

pub returns-in-PdMode : goal.returns-in-PdMode
unfolding places unpack labels_of
returns-in-PdMode c = made c.in-PdMode.is

pub returns-in-ProductionMode : goal.returns-in-ProductionMode
unfolding places unpack labels_of
returns-in-ProductionMode c = made c.in-ProductionMode.is

pub returns-in-MetaboliteMode : goal.returns-in-MetaboliteMode
unfolding places unpack labels_of
returns-in-MetaboliteMode c = made c.in-MetaboliteMode.is

pub returns-in-VariabilityEffect : goal.returns-in-VariabilityEffect
unfolding places unpack labels_of
returns-in-VariabilityEffect c = made c.in-VariabilityEffect.is

pub returns-in-VariabilityLevel : goal.returns-in-VariabilityLevel
unfolding places unpack labels_of
returns-in-VariabilityLevel c = made c.in-VariabilityLevel.is
