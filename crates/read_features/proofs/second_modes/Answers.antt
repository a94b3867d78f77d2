-- `read_features::second_modes` meets its contract. Assumes nothing.
use Rattle.std.proofs.Common.{rules}
use Rattle.read_forms.specs.Forms.{some_in}
use Rattle.read_features.proofs.Arity.{second_none, second_some}
use Rattle.read_features.proofs.second_modes.Goals as goal

pub returns-then-args-eq1 : goal.returns-then-args-eq1
unfolding some_in
returns-then-args-eq1 c = rw (second_none c.args.args c.if-args-eq1.true)

pub returns-in_err-modes : goal.returns-in_err-modes
returns-in_err-modes c =
    rw (second_some c.args.args c.if-args-eq1.false, ← c.modes_of.ensures, c.in_err-modes.was) (search rules)

pub returns : goal.returns
unfolding some_in
returns c = rw (second_some c.args.args c.if-args-eq1.false, ← c.modes_of.ensures, c.in_ok-modes.was)
