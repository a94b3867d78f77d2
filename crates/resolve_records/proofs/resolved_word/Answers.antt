-- `resolve_records::resolved_word` meets its contract. Assumes nothing.
use mathlib.Core.Path.{◌∙◌, ap, sym, subst}
use native.Mathlib.Omega.{arith}
use Rattle.resolve_settling.specs.Answers.{resolved_as}
use Rattle.resolve_records.specs.Words.{resolved_word, Small}
use Rattle.resolve_records.proofs.resolved_word.Goals as goal

pub lengths_word-requires : goal.lengths_word-requires
unfolding resolved_as
lengths_word-requires c = subst Small (ap resolved_as c.in-Ok.is) c.requires

pub refusal_word-requires : goal.refusal_word-requires
unfolding resolved_as
refusal_word-requires c =
    let h = subst Small (ap resolved_as c.in-Err.is) c.requires in
    omega (arith, h)

pub returns-in-Ok : goal.returns-in-Ok
unfolding resolved_as
returns-in-Ok c = c.lengths_word.ensures ∙ ap resolved_word (sym (ap resolved_as c.in-Ok.is))

pub returns-in-Err : goal.returns-in-Err
unfolding resolved_as
returns-in-Err c = c.refusal_word.ensures ∙ ap resolved_word (sym (ap resolved_as c.in-Err.is))
