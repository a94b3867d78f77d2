-- `read_features::covariate_with` meets its contract. Assumes nothing.
use Rattle.std.proofs.Common.{rules}
use Rattle.read_forms.specs.Forms.{feature_in}
use Rattle.read_features.proofs.covariate_with.Goals as goal

pub returns-in_err-op : goal.returns-in_err-op
returns-in_err-op c =
    rw (← c.effects_of.ensures, c.in_ok-effects.was, ← (c.operator.ensures c.args.text.now), c.in_err-op.was) (search rules)

pub returns : goal.returns
unfolding feature_in
returns c = rw (← c.effects_of.ensures, c.in_ok-effects.was, ← (c.operator.ensures c.args.text.now), c.in_ok-op.was)
