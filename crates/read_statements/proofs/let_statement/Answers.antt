-- `read_statements::let_statement` meets its contract: what its argument is taken for. Assumes nothing.
use mathlib.Core.Path.{◌∙◌, ap, sym}
use mathlib.Core.List.{List}
use lib.ListN.{length}
use Rattle.reading.specs.Statement.{Item}
use Rattle.reading.specs.Answer.{Answer}
use Rattle.reading.specs.Syntax.{let_made}
use Rattle.read_forms.specs.Items.{name_in}
use Rattle.read_forms.specs.Forms.{statement_in}
use Rattle.read_arguments.specs.Answers.{step_in}
use Rattle.read_forms.specs.Items.{items_in}
use Rattle.read_forms.specs.Faults.{answered}
use Rattle.std.specs.Prelude.{Err}
use Rattle.std.proofs.Common.{rules, ◌≡◌}
use Rattle.read_statements.specs.Answers.{one_before, next_then, NextFrom}
use Rattle.read_statements.proofs.let_statement.Goals as goal

pub returns : goal.returns
unfolding let_made statement_in
returns c =
    let a = c.args in
    let s = a.text.now in record {
      by_index = (λ limit.
          ap (λ (y : Answer (List Item)). one_before limit (length s) a.n (step_in limit s (let_made (name_in s a.name) y) a.cur.at))
          (sym (c.items_of.ensures s c.requires.1) ∙ ap (answered (items_in s)) c.in_ok-values.was)
          ∙ c.completed.ensures.by_index limit);
      next_from = c.completed.ensures.next_from;
    }

pub returns-in_err-values : goal.returns-in_err-values
unfolding let_made next_then NextFrom
returns-in_err-values c =
    let a = c.args in
    let s = a.text.now in
    let told : c.from_residual.result ≡ Err c.in_err-values.field-0.0 = search rules in
    rw told
    (record {
      by_index = (λ limit.
          ap (λ (y : Answer (List Item)). one_before limit (length s) a.n (step_in limit s (let_made (name_in s a.name) y) a.cur.at))
          (sym (c.items_of.ensures s c.requires.1) ∙ ap (answered (items_in s)) c.in_err-values.was));
      next_from = tt;
    })
