-- `read_features::iov` meets its contract. Assumes nothing.
use Rattle.std.proofs.Common.{rules}
use Rattle.reading.specs.Statement.{Iov}
use Rattle.reading.specs.Feature.{feature_of}
use Rattle.read_forms.specs.Forms.{feature_in}
use Rattle.read_features.proofs.Building.{variability_eta}
use Rattle.read_features.proofs.iov.Goals as goal

pub returns-in_err-eta : goal.returns-in_err-eta
unfolding feature_of
returns-in_err-eta c = λ limit k e. rw (variability_eta (Iov c.args.optional), ← (c.eta.ensures k e), c.in_err-eta.was) (search rules)

pub returns : goal.returns
unfolding feature_of feature_in
returns c = λ limit k e. rw (variability_eta (Iov c.args.optional), ← (c.eta.ensures k e), c.in_ok-eta.was)
