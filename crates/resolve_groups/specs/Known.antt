-- What is known of groups that are listed.
use Rattle.std.specs.Prelude.{ℕ, ◌*◌, ◌≤◌, ◌<◌, List, map, length, take}
use Rattle.resolving.specs.Context.{Context, covariates}
use Rattle.resolving.specs.Effects.{Effect}
use Rattle.text.proofs.All.{All}
use Rattle.resolve_merging.specs.Packing.{effect_of}
use Rattle.resolve_merging.specs.Outcomes.{GroupsListed}

-- an effect with a parameter and a covariate of the context
abbrev pub Entered : Context → Effect → Type 0
Entered c e = (e.parameter < length c.parameters) × (e.covariate < length (covariates c))

-- the groups of so many effects are listed, and each has a parameter and a covariate of the context
pub record GroupsKnown (c : Context) (work listed : List ℕ) (count groups : ℕ) : Type 0 where
  pub stand : GroupsListed (map effect_of (take count work)) listed groups
  pub entered : All (Entered c) (map effect_of (take count work))
  pub room : 2 * groups ≤ length listed
