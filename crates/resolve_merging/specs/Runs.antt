-- Merging and grouping, on runs of packed terms.
use Rattle.std.specs.Prelude.{ℕ, Bool, not, List, [], map, eqb}
use Rattle.std.proofs.Math.Option.{Option}
use Rattle.text.specs.Lists.{keep, firsts}
use Rattle.resolving.specs.Merging.{also_mandatory}
use Rattle.resolving_laws.specs.Flat.{overridden_among, forced_after}
use Rattle.resolve_merging.specs.Packing.{effect_of, term_of, bare, group_number, form_number}

abbrev pub overridden_in : List ℕ → ℕ → Bool
overridden_in l w = overridden_among (map term_of l) (term_of w)

abbrev pub remaining_in : List ℕ → List ℕ
remaining_in l = keep (λ w. not (overridden_in l w)) l

abbrev pub forced_in : List ℕ → Option ℕ
forced_in l = forced_after [] (map term_of l)

abbrev pub also_mandatory_in : List ℕ → ℕ → Bool
also_mandatory_in l w = also_mandatory (map effect_of l) (effect_of w)

abbrev pub united_in : List ℕ → List ℕ
united_in l = firsts eqb (map bare (keep (λ w. not (also_mandatory_in l w)) l))

-- the groups of a run of effects, and the forms of one
abbrev pub groups_in : List ℕ → List ℕ
groups_in l = firsts eqb (map group_number l)

abbrev pub forms_of : ℕ → List ℕ → List ℕ
forms_of g l = map form_number (keep (λ e. eqb (group_number e) g) l)
