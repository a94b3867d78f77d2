-- `numbers_statement::numbers_under` meets its contract: the numbers of what was found can be written, and a refusal is handed on. Assumes nothing.
use Rattle.std.specs.Prelude.{Err}
use Rattle.std.proofs.Common.{rules}
use mathlib.Core.Path.{◌≡◌, refl, ◌∙◌, ap, sym}
use Rattle.tokens.specs.Class.{class_of, class_table}
use Rattle.reading.specs.Answer.{accepted}
use Rattle.read_forms.specs.Forms.{statement_in}
use Rattle.read_parts.proofs.Fitting.{statement-fits}
use Rattle.read_forms.specs.Faults.{answered}
use Rattle.reading_laws.proofs.Calls.{found_as-read}
use Rattle.reading.specs.Calls.{stating}
use Rattle.numbers_statement.specs.Answers.{numbered, numbering}
use Rattle.print_writing.proofs.Answering.{refused_answers}
use Rattle.numbers_statement.proofs.Whole.{statement-numbers, numbers_ready}
use Rattle.numbers_statement.proofs.numbers_under.Goals.{In_ok-statement}
use Rattle.numbers_statement.proofs.numbers_under.Goals as goal

-- the statement that was found
whole :
    (c : In_ok-statement)
    → (let x = c.args in
    accepted (statement_in x.text.now c.in_ok-statement.statement) ≡ stating x.limit x.text.now x.index)
whole c =
    let a = c.args in
    sym (ap (answered (statement_in a.text.now)) c.in_ok-statement.was) ∙ c.statement_under.ensures

pub put_whole-requires : goal.put_whole-requires
unfolding class_table class_of
put_whole-requires c =
    let a = c.args in
    let s = a.text.now in
    let st = c.in_ok-statement.statement in
    rw c.parts_of.ensures (
      refl,
      statement-fits a.limit s st (found_as-read a.limit s a.index (statement_in s st) (whole (goal.at.put_whole-requires c).In_ok-statement)),
      numbers_ready a.limit s a.index st (whole (goal.at.put_whole-requires c).In_ok-statement),
    )

pub returns : goal.returns
returns c =
    let a = c.args in
    let out = a.out.now in
    let e = rw (c.parts_of.ensures, statement-numbers a.text.now c.in_ok-statement.statement) at c.put_whole.ensures in
    rw (← whole (goal.at.returns c).In_ok-statement) e

pub returns-in_err-statement : goal.returns-in_err-statement
returns-in_err-statement c =
    let a = c.args in
    let told : c.from_residual.result ≡ Err c.in_err-statement.field-0.0 = search rules in
    rw told
    (refused_answers a.out.now (numbering a.limit a.text.now a.index) _ _
    (ap numbered (sym c.statement_under.ensures ∙ ap (answered (statement_in a.text.now)) c.in_err-statement.was)))
