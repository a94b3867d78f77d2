-- `resolve_context::every_form` meets its contract, kind by kind. Assumes nothing.
use mathlib.Core.Path.{ap, sym}
use mathlib.Core.Option.{some}
use Rattle.read_packs.specs.Packs.{places, unpack}
use Rattle.resolving.specs.Effects.{every_form}
use Rattle.resolve_context.specs.Kinds.{kind_as}
use Rattle.resolve_context.proofs.every_form.Goals as goal

pub returns-in-Continuous : goal.returns-in-Continuous
unfolding places unpack
returns-in-Continuous c = sym (ap (λ k. every_form (some (kind_as k))) c.in-Continuous.is)

pub returns-in-Categorical : goal.returns-in-Categorical
unfolding places unpack
returns-in-Categorical c = sym (ap (λ k. every_form (some (kind_as k))) c.in-Categorical.is)
