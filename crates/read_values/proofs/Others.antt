-- What no arm takes has no list.
-- Assumes nothing.
use mathlib.Core.Path.{◌≡◌, refl}
use mathlib.Core.List.{[], ◌∷◌}
use denote.Enum.Declared.{tag_of}
use types.Run.{OneOf, miss}
use Rattle.read_parts.specs.declared.Part.{Part}
use Rattle.read_parts.specs.declared.Part.TheVariants.{Absent, Modes, Counts, N, Operand, Name, Values, Op, Omitted}
use Rattle.read_parts.specs.contracts.Part.{the_type}
use Rattle.read_values.specs.Lists.{no_items, names_in, counts_in}

pub no_names : (p : Part) → OneOf (0 ∷ 1 ∷ 2 ∷ 3 ∷ 5 ∷ 7 ∷ 8 ∷ []) (tag_of the_type p) → no_items ≡ names_in p
no_names Absent k = refl
no_names (Modes f m) k = refl
no_names (Counts c) k = refl
no_names N k = refl
no_names (Operand p) k = absurd (miss (0 ∷ 1 ∷ 2 ∷ 3 ∷ 5 ∷ 7 ∷ 8 ∷ []) 4 tt k)
no_names (Name n) k = refl
no_names (Values is) k = absurd (miss (0 ∷ 1 ∷ 2 ∷ 3 ∷ 5 ∷ 7 ∷ 8 ∷ []) 6 tt k)
no_names (Op op) k = refl
no_names Omitted k = refl

pub no_counts : (p : Part) → OneOf (0 ∷ 1 ∷ 3 ∷ 4 ∷ 5 ∷ 6 ∷ 7 ∷ 8 ∷ []) (tag_of the_type p) → no_items ≡ counts_in p
no_counts Absent k = refl
no_counts (Modes f m) k = refl
no_counts (Counts c) k = absurd (miss (0 ∷ 1 ∷ 3 ∷ 4 ∷ 5 ∷ 6 ∷ 7 ∷ 8 ∷ []) 2 tt k)
no_counts N k = refl
no_counts (Operand p) k = refl
no_counts (Name n) k = refl
no_counts (Values is) k = refl
no_counts (Op op) k = refl
no_counts Omitted k = refl
