-- `read_features::indirect_effect` meets its contract. Assumes nothing.
use Rattle.std.proofs.Common.{rules}
use Rattle.reading.specs.Feature.{feature_of}
use Rattle.read_forms.specs.Forms.{feature_in}
use Rattle.read_features.proofs.Arity.{two_is, two-not}
use Rattle.read_features.proofs.indirect_effect.Goals as goal

pub returns-then-args-ne2 : goal.returns-then-args-ne2
unfolding feature_of
returns-then-args-ne2 c = λ limit k e. rw (c.wrong_number.ensures, two-not c.args.args c.if-args-ne2.true, e)

pub returns-in_err-mode : goal.returns-in_err-mode
unfolding feature_of
returns-in_err-mode c = λ limit k e.
    rw (two_is c.args.args c.if-args-ne2.false, ← c.modes_of.ensures, c.in_err-mode.was) (search rules)

pub returns-in_err-production : goal.returns-in_err-production
unfolding feature_of
returns-in_err-production c = λ limit k e.
    rw (two_is c.args.args c.if-args-ne2.false, ← c.modes_of.ensures, c.in_ok-mode.was, ← c.modes_of-2.ensures, c.in_err-production.was) (search rules)

pub returns : goal.returns
unfolding feature_of feature_in
returns c = λ limit k e.
    rw (two_is c.args.args c.if-args-ne2.false, ← c.modes_of.ensures, c.in_ok-mode.was, ← c.modes_of-2.ensures, c.in_ok-production.was)
    (c.mandatory.ensures c.args.text.now k e)
