-- `read_features::eta` meets its contract. Assumes nothing.
use Rattle.std.proofs.Common.{rules}
use Rattle.read_features.proofs.Arity.{two_is, two-not}
use Rattle.read_features.proofs.eta.Goals as goal

pub returns-then-args-ne2 : goal.returns-then-args-ne2
returns-then-args-ne2 c = λ k e. rw (c.wrong_number.ensures, two-not c.args.args c.if-args-ne2.true, e)

pub returns-in_err-parameters : goal.returns-in_err-parameters
returns-in_err-parameters c = λ k e.
    rw (two_is c.args.args c.if-args-ne2.false, ← (c.operand_of.ensures c.args.text.now c.requires.2.first), c.in_err-parameters.was) (search rules)

pub returns-in_err-effects : goal.returns-in_err-effects
returns-in_err-effects c = λ k e.
    rw (two_is c.args.args c.if-args-ne2.false, ← (c.operand_of.ensures c.args.text.now c.requires.2.first), c.in_ok-parameters.was, ← c.modes_of.ensures, c.in_err-effects.was) (search rules)

pub returns : goal.returns
returns c = λ k e.
    rw (two_is c.args.args c.if-args-ne2.false, ← (c.operand_of.ensures c.args.text.now c.requires.2.first), c.in_ok-parameters.was, ← c.modes_of.ensures, c.in_ok-effects.was)
