-- `resolve_taking::lets_end` meets its contract. Assumes nothing.
use mathlib.Core.Path.{sym, ap}
use Rattle.read_forms.specs.declared.Statement.{Statement}
use Rattle.resolve_taking.specs.Again.{end_after}
use Rattle.resolve_taking.proofs.lets_end.Goals as goal

pub returns-in-Let : goal.returns-in-Let
unfolding end_after
returns-in-Let c = sym (ap (λ (x : Statement). end_after x c.args.index c.args.end) c.in-Let.is)

pub returns-in-Feature : goal.returns-in-Feature
unfolding end_after
returns-in-Feature c = sym (ap (λ (x : Statement). end_after x c.args.index c.args.end) c.in-Feature.is)
