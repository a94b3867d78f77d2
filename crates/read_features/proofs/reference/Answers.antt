-- `read_features::reference` meets its contract. Assumes nothing.
use Rattle.std.proofs.Common.{rules}
use Rattle.read_forms.specs.Forms.{some_in}
use Rattle.read_features.proofs.Arity.{second_none, second_some}
use Rattle.read_features.proofs.reference.Goals as goal

pub returns-then-args-eq1 : goal.returns-then-args-eq1
unfolding some_in
returns-then-args-eq1 c = λ s. rw (second_none c.args.args c.if-args-eq1.true)

pub returns-in_err-name : goal.returns-in_err-name
returns-in_err-name c = λ s.
    rw (second_some c.args.args c.if-args-eq1.false, ← (c.number_of.ensures s), c.in_err-name.was) (search rules)

pub returns : goal.returns
unfolding some_in
returns c = λ s. rw (second_some c.args.args c.if-args-eq1.false, ← (c.number_of.ensures s), c.in_ok-name.was)
