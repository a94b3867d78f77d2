-- `resolve_call::effect_count` meets its contract. Assumes nothing.
use borrow.Author.Rules.{rules}
use Rattle.resolve_settling.specs.Answers.{resolved_as}
use Rattle.resolve_call.proofs.effect_count.Goals as goal

pub returns-in-Ok : goal.returns-in-Ok
unfolding resolved_as
returns-in-Ok c = search rules

pub returns-in-Err : goal.returns-in-Err
unfolding resolved_as
returns-in-Err c = search rules
