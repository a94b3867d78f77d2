-- `read_statements::feature_statement` meets its contract: what the keyword makes of the arguments. Assumes nothing.
use mathlib.Core.Path.{◌∙◌, ap, sym}
use lib.ListN.{length}
use Rattle.reading.specs.Statement.{Feature}
use Rattle.reading.specs.Answer.{Answer}
use Rattle.reading.specs.Syntax.{feature_made}
use Rattle.read_forms.specs.Forms.{statement_in}
use Rattle.read_arguments.specs.Answers.{step_in}
use Rattle.read_forms.specs.Forms.{feature_in}
use Rattle.read_forms.specs.Faults.{answered}
use Rattle.std.specs.Prelude.{Err}
use Rattle.std.proofs.Common.{rules, ◌≡◌}
use Rattle.read_statements.specs.Answers.{one_before, next_then, NextFrom}
use Rattle.read_statements.proofs.feature_statement.Goals as goal

pub returns : goal.returns
unfolding feature_made statement_in
returns c =
    let a = c.args in
    let s = a.text.now in record {
      at_value = ap (λ (y : Answer Feature). one_before a.limit (length s) a.n (step_in a.limit s (feature_made y) a.cur.at))
          (sym c.build.ensures ∙ ap (answered (feature_in s)) c.in_ok-feature.was)
          ∙ c.completed.ensures.by_index a.limit;
      next_from = c.completed.ensures.next_from;
    }

pub returns-in_err-feature : goal.returns-in_err-feature
unfolding feature_made next_then NextFrom
returns-in_err-feature c =
    let a = c.args in
    let s = a.text.now in
    let told : c.from_residual.result ≡ Err c.in_err-feature.field-0.0 = search rules in
    rw told
    (record {
      at_value = ap (λ (y : Answer Feature). one_before a.limit (length s) a.n (step_in a.limit s (feature_made y) a.cur.at))
          (sym c.build.ensures ∙ ap (answered (feature_in s)) c.in_err-feature.was);
      next_from = tt;
    })
