-- What the parts of a form mean in a text, and that their names lie in the text and their lists can be read again.
use Rattle.std.specs.Prelude.{ℕ, List, [], ◌∷◌, ◌++◌}
use Rattle.reading.specs.Parts as reading
use Rattle.reading.specs.Parts.{modes_part, counts_part, estimated_part, operand_part, name_part, values_part, operator_part, omitted}
use Rattle.read_forms.specs.declared.Counts as countsForm
use Rattle.read_forms.specs.declared.Counts.TheVariants as counts
use Rattle.read_forms.specs.declared.Operand as operandForm
use Rattle.read_forms.specs.declared.Operand.TheVariants as operand
use Rattle.read_forms.specs.Items.{name_in, items_in}
use Rattle.read_forms.specs.Forms.{modes_in, counts_in, operand_in, op_as}
use Rattle.read_forms.specs.Fits.{InText, Listed}
use Rattle.read_parts.specs.declared.Part.{Part}
use Rattle.read_parts.specs.declared.Part.TheVariants.{Absent, Modes, Counts, N, Operand, Name, Values, Op, Omitted}
use Rattle.read_parts.specs.declared.Parts.{Parts}

abbrev pub part_in : List ℕ → Part → List reading.Part
part_in s Absent = []
part_in s (Modes f m) = modes_part f (modes_in m) ∷ []
part_in s (Counts c) = counts_part (counts_in s c) ∷ []
part_in s N = estimated_part ∷ []
part_in s (Operand p) = operand_part (operand_in s p) ∷ []
part_in s (Name n) = name_part (name_in s n) ∷ []
part_in s (Values is) = values_part (items_in s is) ∷ []
part_in s (Op op) = operator_part (op_as op) ∷ []
part_in s Omitted = omitted ∷ []

unfoldable pub parts_in : List ℕ → Parts → reading.Parts
parts_in s r = record {
  keyword = r.keyword;
  optional = r.optional;
  arguments = part_in s r.first ++ (part_in s r.second ++ (part_in s r.third ++ part_in s r.fourth));
}

-- its name, if it has one alone, lies in the text; its list can be read again
abbrev pub CountsFit : List ℕ → countsForm.Counts → Type 0
CountsFit s (counts.Single v) = Unit {0}
CountsFit s (counts.Range a b) = Unit {0}
CountsFit s (counts.List is) = Listed s is

abbrev pub OperandFits : List ℕ → operandForm.Operand → Type 0
OperandFits s operand.Wildcard = Unit {0}
OperandFits s (operand.Symbol n) = InText s n
OperandFits s (operand.Names is) = Listed s is

abbrev pub PartFits : List ℕ → Part → Type 0
PartFits s Absent = Unit {0}
PartFits s (Modes f m) = Unit {0}
PartFits s (Counts c) = CountsFit s c
PartFits s N = Unit {0}
PartFits s (Operand p) = OperandFits s p
PartFits s (Name n) = InText s n
PartFits s (Values is) = Listed s is
PartFits s (Op op) = Unit {0}
PartFits s Omitted = Unit {0}

pub record PartsFit (s : List ℕ) (r : Parts) : Type 0 where
  pub first : PartFits s r.first
  pub second : PartFits s r.second
  pub third : PartFits s r.third
  pub fourth : PartFits s r.fourth
