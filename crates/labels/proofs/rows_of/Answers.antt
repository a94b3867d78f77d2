-- `labels::rows_of` meets its contract: the rows at each family are those with its mark.
-- Assumes nothing.
use Rattle.labels.specs.Label.{labels_of}
use Rattle.labels.specs.Table.{label_table}
use Rattle.labels.specs.Row.{marked}
use Rattle.labels.proofs.Families.{family_rows}
use Rattle.labels.proofs.rows_of.Goals as goal

pub returns-in-AbsorptionMode : goal.returns-in-AbsorptionMode
unfolding label_table labels_of marked
returns-in-AbsorptionMode c = family_rows c.in-AbsorptionMode.is

pub returns-in-EliminationMode : goal.returns-in-EliminationMode
unfolding label_table labels_of marked
returns-in-EliminationMode c = family_rows c.in-EliminationMode.is

pub returns-in-PeripheralKind : goal.returns-in-PeripheralKind
unfolding label_table labels_of marked
returns-in-PeripheralKind c = family_rows c.in-PeripheralKind.is

pub returns-in-DepotMode : goal.returns-in-DepotMode
unfolding label_table labels_of marked
returns-in-DepotMode c = family_rows c.in-DepotMode.is

pub returns-in-LagtimeMode : goal.returns-in-LagtimeMode
unfolding label_table labels_of marked
returns-in-LagtimeMode c = family_rows c.in-LagtimeMode.is

pub returns-in-CovariateEffect : goal.returns-in-CovariateEffect
unfolding label_table labels_of marked
returns-in-CovariateEffect c = family_rows c.in-CovariateEffect.is

pub returns-in-PdMode : goal.returns-in-PdMode
unfolding label_table labels_of marked
returns-in-PdMode c = family_rows c.in-PdMode.is

pub returns-in-ProductionMode : goal.returns-in-ProductionMode
unfolding label_table labels_of marked
returns-in-ProductionMode c = family_rows c.in-ProductionMode.is

pub returns-in-MetaboliteMode : goal.returns-in-MetaboliteMode
unfolding label_table labels_of marked
returns-in-MetaboliteMode c = family_rows c.in-MetaboliteMode.is

pub returns-in-VariabilityEffect : goal.returns-in-VariabilityEffect
unfolding label_table labels_of marked
returns-in-VariabilityEffect c = family_rows c.in-VariabilityEffect.is

pub returns-in-VariabilityLevel : goal.returns-in-VariabilityLevel
unfolding label_table labels_of marked
returns-in-VariabilityLevel c = family_rows c.in-VariabilityLevel.is
