-- `resolve_outputs::put_first` meets its contract: so many elements stand there, and the others are as they were. Assumes nothing.
use Rattle.resolve_outputs.proofs.Filling.{none_filled, filled_next, copied_all}
use Rattle.resolve_outputs.proofs.put_first.Goals as goal

pub loop-i-init : goal.loop-i-init
loop-i-init g c = none_filled c.requires.0 c.requires.1

pub loop-i-preserved : goal.loop-i-preserved
loop-i-preserved g c = filled_next c.loop-i.invariant c.index-made-i.result c.loop-i-test.true c.index-made-i.is

pub returns : goal.returns
returns g c = copied_all c.loop-i.invariant c.loop-i-test.false
