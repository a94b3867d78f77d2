-- `resolve_call::finish` meets its contract. Assumes nothing.
use mathlib.Core.Path.{◌∙◌}
use Rattle.resolve_call.proofs.Calling.{short_work}
use Rattle.resolve_call.proofs.Packed.{cleared}
use Rattle.resolve_call.proofs.finish.Goals as goal

pub returns-then-work-ge-WORKING : goal.returns-then-work-ge-WORKING
returns-then-work-ge-WORKING c =
    c.clear.ensures ∙ cleared c.args.work.now c.if-work-ge-WORKING.true

pub returns-else-work-ge-WORKING : goal.returns-else-work-ge-WORKING
returns-else-work-ge-WORKING c = short_work _ c.if-work-ge-WORKING.false
