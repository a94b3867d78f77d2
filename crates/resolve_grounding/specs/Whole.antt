-- Document 01, Resolving: "Every other mode `*` becomes its family's whole list; counts stay." Said of a statement's parts.
use Rattle.std.specs.Prelude.{ℕ, List, map, ◌≡◌}
use Rattle.reading.specs.Parts.{
  Part,
  modes_part,
  counts_part,
  estimated_part,
  operand_part,
  name_part,
  values_part,
  operator_part,
  omitted,
  Parts,
}
use Rattle.resolving.specs.Brought.{whole}
use Rattle.read_parts.specs.declared.Part as form
use Rattle.read_parts.specs.declared.Parts as forms
use Rattle.read_parts.specs.Apart.{is_written}
use Rattle.read_parts.specs.Meaning.{part_in, parts_in, PartFits, PartsFit}

abbrev pub with_whole : Part → Part
with_whole (modes_part f ms) = modes_part f (whole f ms)
with_whole (counts_part c) = counts_part c
with_whole estimated_part = estimated_part
with_whole (operand_part p) = operand_part p
with_whole (name_part n) = name_part n
with_whole (values_part is) = values_part is
with_whole (operator_part op) = operator_part op
with_whole omitted = omitted

abbrev pub all_whole : Parts → Parts
all_whole p = record { keyword = p.keyword; optional = p.optional; arguments = map with_whole p.arguments }

-- a part and parts of a form that were made so
pub record WholePart (part r : form.Part) : Type 0 where
  pub mean : (s : List ℕ) → part_in s r ≡ map with_whole (part_in s part)
  pub fit : (s : List ℕ) → PartFits s part → PartFits s r
  pub written : is_written r ≡ is_written part

pub record WholeParts (parts r : forms.Parts) : Type 0 where
  pub mean : (s : List ℕ) → parts_in s r ≡ all_whole (parts_in s parts)
  pub fit : (s : List ℕ) → PartsFit s parts → PartsFit s r
  pub written : is_written r.first ≡ is_written parts.first
  pub keyword : r.keyword ≡ parts.keyword
