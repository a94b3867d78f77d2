-- `resolve_symbols::parameter` meets its contract: the name is the parameter's at the place. Assumes nothing.
use mathlib.Core.Path.{refl, subst}
use Rattle.resolve_context.proofs.Meaning.{parameters_sound}
use Rattle.resolve_symbols.specs.Brings.{FoundBelow}
use Rattle.resolve_symbols.proofs.Brings.{yields_nothing, yields_pair}
use Rattle.resolve_symbols.proofs.parameter.Goals as goal

pub pair_at-requires : goal.pair_at-requires
pair_at-requires c =
    (subst (FoundBelow c.args.layout.parameters.count) c.in-Some.is c.requires.1, parameters_sound _ _ _ c.requires.0)

pub returns-in-Some : goal.returns-in-Some
returns-in-Some c = rw c.in-Some.is (yields_pair _ c.pair_at.ensures.0 c.pair_at.ensures.1 refl)

pub returns-in-None : goal.returns-in-None
returns-in-None c = rw c.in-None.is (yields_nothing refl)
