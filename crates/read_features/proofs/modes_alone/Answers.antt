-- `read_features::modes_alone` meets its contract. Assumes nothing.
use Rattle.std.proofs.Common.{rules}
use Rattle.read_features.proofs.Arity.{one-is, one-not}
use Rattle.read_features.proofs.modes_alone.Goals as goal

pub returns-then-args-ne1 : goal.returns-then-args-ne1
returns-then-args-ne1 c = λ k e. rw (c.wrong_number.ensures, one-not c.args.args c.if-args-ne1.true, e)

pub returns-in_err-modes : goal.returns-in_err-modes
returns-in_err-modes c = λ k e.
    let h = rw c.family_of.ensures at c.modes_of.ensures in
    rw (one-is c.args.args c.if-args-ne1.false, ← h, c.in_err-modes.was) (search rules)

pub returns : goal.returns
returns c = λ k e.
    let a = c.args in
    let h = rw c.family_of.ensures at c.modes_of.ensures in
    rw (one-is a.args c.if-args-ne1.false, ← h, c.in_ok-modes.was, ← (c.feature_with.ensures a.text.now))
    (c.mandatory.ensures a.text.now k e)
