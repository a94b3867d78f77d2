-- What merging and grouping answer together, in the words of `resolve_merging`.
use Rattle.std.specs.Prelude.{ℕ, List, map, eqb, take}
use Rattle.text.specs.Lists.{firsts}
use Rattle.resolve_merging.specs.declared.ForcedAgain.{ForcedAgain}
use Rattle.std.specs.Prelude as prelude
use Rattle.resolve_merging.specs.Packing.{effect_of, bare}
use Rattle.resolve_merging.specs.Passes.{Left}
use Rattle.resolve_merging.specs.Outcomes.{GroupsListed}
use Rattle.resolve_merging_few.specs.declared.United.{United}

-- the first occurrences of the effects of so many terms, and their groups
pub record AllUnited (n : ℕ) (before after listed : List ℕ) (r : United) : Type 0 where
  pub left : Left (firsts eqb (map bare (take n before))) n before after r.effects
  pub groups : GroupsListed (map effect_of (take r.effects after)) listed r.groups

abbrev pub outcome_of : prelude.Result United ForcedAgain → prelude.Result ℕ ForcedAgain
outcome_of (prelude.Err e) = prelude.Err e
outcome_of (prelude.Ok u) = prelude.Ok u.effects

-- the groups of the merged effects stand in a run of their own
abbrev pub ListedBy : List ℕ → List ℕ → prelude.Result United ForcedAgain → Type 0
ListedBy work listed (prelude.Err e) = Unit {0}
ListedBy work listed (prelude.Ok u) = GroupsListed (map effect_of (take u.effects work)) listed u.groups
