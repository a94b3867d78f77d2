-- `read_features::covariance` meets its contract. Assumes nothing.
use Rattle.std.proofs.Common.{rules}
use Rattle.reading.specs.Feature.{feature_of}
use Rattle.read_forms.specs.Forms.{feature_in}
use Rattle.read_features.proofs.Arity.{two_is, two-not}
use Rattle.read_features.proofs.covariance.Goals as goal

pub returns-then-args-ne2 : goal.returns-then-args-ne2
unfolding feature_of
returns-then-args-ne2 c = λ limit k e. rw (c.wrong_number.ensures, two-not c.args.args c.if-args-ne2.true, e)

pub returns-in_err-level : goal.returns-in_err-level
unfolding feature_of
returns-in_err-level c = λ limit k e.
    rw (two_is c.args.args c.if-args-ne2.false, ← c.modes_of.ensures, c.in_err-level.was) (search rules)

pub returns-in_err-parameters : goal.returns-in_err-parameters
unfolding feature_of
returns-in_err-parameters c = λ limit k e.
    rw (two_is c.args.args c.if-args-ne2.false, ← c.modes_of.ensures, c.in_ok-level.was, ← (c.operand_of.ensures c.args.text.now c.requires.2.second), c.in_err-parameters.was) (search rules)

pub returns : goal.returns
unfolding feature_of feature_in
returns c = λ limit k e.
    rw (two_is c.args.args c.if-args-ne2.false, ← c.modes_of.ensures, c.in_ok-level.was, ← (c.operand_of.ensures c.args.text.now c.requires.2.second), c.in_ok-parameters.was)
