-- A form taken apart: its keyword's place, its `?` and its arguments in their order.
use Rattle.std.specs.Prelude.{ℕ, Bool, true, false, Option, Some, None}
use Rattle.labels.specs.declared.Family.{Family}
use Rattle.labels.specs.declared.Family.TheVariants.{
  AbsorptionMode,
  EliminationMode,
  PeripheralKind,
  DepotMode,
  LagtimeMode,
  CovariateEffect,
  PdMode,
  ProductionMode,
  MetaboliteMode,
  VariabilityEffect,
  VariabilityLevel,
}
use Rattle.read_forms.specs.declared.Modes as form
use Rattle.read_forms.specs.declared.Name as name
use Rattle.read_forms.specs.declared.TransitCounts.{TransitCounts}
use Rattle.read_forms.specs.declared.TransitCounts.TheVariants as transits
use Rattle.read_forms.specs.declared.Feature.{Feature}
use Rattle.read_forms.specs.declared.Feature.TheVariants.{
  Absorption,
  Elimination,
  Peripherals,
  Transits,
  Lagtime,
  Covariate,
  Allometry,
  DirectEffect,
  EffectComp,
  IndirectEffect,
  Metabolite,
  Iiv,
  Iov,
  Covariance,
}
use Rattle.read_forms.specs.declared.Statement.{Statement}
use Rattle.read_forms.specs.declared.Statement.TheVariants as statement
use Rattle.read_parts.specs.declared.Part.{Part}
use Rattle.read_parts.specs.declared.Part.TheVariants.{Absent, Modes, Counts, N, Operand, Name, Values, Op, Omitted}
use Rattle.read_parts.specs.declared.Parts.{Parts}

abbrev pub some_modes_part : Family → Option form.Modes → Part
some_modes_part f None = Omitted
some_modes_part f (Some m) = Modes f m

abbrev pub some_name_part : Option name.Name → Part
some_name_part None = Omitted
some_name_part (Some n) = Name n

abbrev pub transits_part : TransitCounts → Part
transits_part transits.N = N
transits_part (transits.Counts c) = Counts c

-- a feature of modes alone, and one of two arguments
abbrev pub one : ℕ → Family → form.Modes → Parts
one k f m = record { keyword = k; optional = false; first = Modes f m; second = Absent; third = Absent; fourth = Absent }

abbrev pub two : ℕ → Bool → Part → Part → Parts
two k o p q = record { keyword = k; optional = o; first = p; second = q; third = Absent; fourth = Absent }

unfoldable pub feature_apart : Feature → Parts
feature_apart (Absorption m) = one 0 AbsorptionMode m
feature_apart (Elimination m) = one 1 EliminationMode m
feature_apart (Peripherals c k) = two 2 false (Counts c) (some_modes_part PeripheralKind k)
feature_apart (Transits c d) = two 3 false (transits_part c) (some_modes_part DepotMode d)
feature_apart (Lagtime m) = one 4 LagtimeMode m
feature_apart (Covariate o p c e op) =
    record { keyword = 5; optional = o; first = Operand p; second = Operand c; third = Modes CovariateEffect e; fourth = Op op }
feature_apart (Allometry n r) = two 6 false (Name n) (some_name_part r)
feature_apart (DirectEffect m) = one 7 PdMode m
feature_apart (EffectComp m) = one 8 PdMode m
feature_apart (IndirectEffect m p) = two 9 false (Modes PdMode m) (Modes ProductionMode p)
feature_apart (Metabolite m) = one 10 MetaboliteMode m
feature_apart (Iiv o p e) = two 11 o (Operand p) (Modes VariabilityEffect e)
feature_apart (Iov o p e) = two 12 o (Operand p) (Modes VariabilityEffect e)
feature_apart (Covariance o l p) = two 13 o (Modes VariabilityLevel l) (Operand p)

unfoldable pub apart : Statement → Parts
apart (statement.Let n is) = two 14 false (Name n) (Values is)
apart (statement.Feature f) = feature_apart f

-- a part that is printed wherever it stands
abbrev pub is_written : Part → Bool
is_written Absent = false
is_written (Modes f m) = true
is_written (Counts c) = true
is_written N = true
is_written (Operand p) = true
is_written (Name n) = true
is_written (Values is) = true
is_written (Op op) = false
is_written Omitted = false

-- a part that has no counts, and one that has no list
abbrev pub no_counts : Part → Bool
no_counts Absent = true
no_counts (Modes f m) = true
no_counts (Counts c) = false
no_counts N = true
no_counts (Operand p) = true
no_counts (Name n) = true
no_counts (Values is) = true
no_counts (Op op) = true
no_counts Omitted = true

abbrev pub is_plain : Part → Bool
is_plain Absent = true
is_plain (Modes f m) = true
is_plain (Counts c) = false
is_plain N = true
is_plain (Operand p) = false
is_plain (Name n) = true
is_plain (Values is) = false
is_plain (Op op) = true
is_plain Omitted = true
