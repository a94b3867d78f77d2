-- `read_features::operator` meets its contract. Assumes nothing.
use Rattle.reading.specs.Feature.{operator_of}
use Rattle.read_features.proofs.Arity.{fourth-none, fourth_some}
use Rattle.read_features.proofs.operator.Goals as goal

pub returns-then-args-eq3 : goal.returns-then-args-eq3
unfolding operator_of
returns-then-args-eq3 c = λ s. rw (fourth-none c.args.args c.if-args-eq3.true)

pub returns : goal.returns
returns c = λ s. rw (fourth_some c.args.args c.if-args-eq3.false) (c.op_of.ensures s)
