-- What holds of every family, each time one computed test over the list of them.
-- Assumes nothing.
use mathlib.Core.Path.{◌≡◌, refl, ◌∙◌, ap, sym}
use mathlib.Core.Bool.{true}
use mathlib.Core.List.{map}
use Prim.Native.Nat.{ℕ, ◌≤◌}
use lib.Dec.{leb}
use lib.ListN.{length, get_or}
use borrow.Author.Tests.{leb-true}
use Rattle.text.specs.Bytes.{count_up}
use Rattle.text.proofs.Lists.{agree}
use Rattle.labels.specs.declared.Family.{Family}
use Rattle.labels.specs.declared.Family.TheVariants.{
  AbsorptionMode,
  EliminationMode,
  PeripheralKind,
  DepotMode,
  LagtimeMode,
  CovariateEffect,
  PdMode,
  ProductionMode,
  MetaboliteMode,
  VariabilityEffect,
  VariabilityLevel,
}
use Rattle.labels.specs.Label.{families, mark_of, labels_of}
use Rattle.labels.specs.Table.{label_table}
use Rattle.labels.specs.Row.{labels_in, rows_fit, marked, rows_with, Holds}

-- a family is the one at its mark
at_mark : (f : Family) → f ≡ get_or families (mark_of f) AbsorptionMode
at_mark AbsorptionMode = refl
at_mark EliminationMode = refl
at_mark PeripheralKind = refl
at_mark DepotMode = refl
at_mark LagtimeMode = refl
at_mark CovariateEffect = refl
at_mark PdMode = refl
at_mark ProductionMode = refl
at_mark MetaboliteMode = refl
at_mark VariabilityEffect = refl
at_mark VariabilityLevel = refl

-- functions that agree on the list of families agree at every family
pub by_family : {A : Type 0} (g h : Family → A) → map g families ≡ map h families → (f : Family) → g f ≡ h f
by_family g h e f = ap g (at_mark f) ∙ agree g h families AbsorptionMode (mark_of f) e (cc) ∙ sym (ap h (at_mark f))

pub few_labels : (f : Family) → length (labels_of f) ≤ 7
unfolding labels_of
few_labels f = leb-true _ _ (by_family (λ f. leb (length (labels_of f)) 7) (λ f. true) refl f)

-- the rows of the table with a family's mark: the first, and how many
abbrev pub first_row : Family → ℕ
first_row f = get_or (rows_with (mark_of f) label_table) 0 0

abbrev pub row_count : Family → ℕ
row_count f = length (rows_with (mark_of f) label_table)

-- they stand together, and hold its labels
pub family_rows : {f g : Family} → f ≡ g → Holds label_table (mark_of f) (first_row g) (row_count g) (labels_of f)
unfolding label_table labels_of labels_in marked
family_rows {f} {g} e =
    rw e
    (record {
      marks = by_family (λ f. rows_with (mark_of f) label_table) (λ f. count_up (first_row f) (row_count f)) refl g;
      fit = by_family (λ f. rows_fit label_table (first_row f) (row_count f)) (λ f. true) refl g;
      held = by_family (λ f. labels_in label_table (first_row f) (row_count f)) labels_of refl g;
    })
