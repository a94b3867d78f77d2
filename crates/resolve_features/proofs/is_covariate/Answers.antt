-- `resolve_features::is_covariate` meets its contract.
-- Assumes nothing.
use Prim.Native.Nat.{ℕ}
use mathlib.Core.Path.{◌≡◌, refl, ◌∙◌, ap}
use mathlib.Core.Option.{Option, some, none}
use Rattle.std.specs.Prelude as prelude
use Rattle.resolve_context.specs.Lists.{found_as}
use Rattle.resolve_context.proofs.Meaning.{covariates_sound, covariates-are}
use Rattle.resolve_features.specs.Stays.{is_some}
use Rattle.resolve_features.proofs.is_covariate.Goals as goal

pub index_of-requires : goal.index_of-requires
index_of-requires c =
    rw c.covariates.ensures (covariates_sound c.args.block.now c.args.lists.now c.args.layout c.requires.0)

told : (o : Option ℕ) → prelude.is_some (found_as o) ≡ is_some o
told none = refl
told (some i) = refl

pub returns : goal.returns
returns c =
    c.is_some.ensures
    ∙ ap prelude.is_some c.index_of.ensures
    ∙ told _
    ∙ rw (c.spelling.ensures, c.covariates.ensures, covariates-are c.args.block.now c.args.lists.now c.args.layout c.requires.0) refl
