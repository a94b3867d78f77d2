-- `read_text::count_from` meets its contract. The invariant: the statements of the text are so many and those from here on. Assumes nothing.
use Rattle.std.specs.Prelude.{Some, None, Ok, Err}
use Rattle.std.proofs.Common.{rules}
use Prim.Native.Nat.{ℕ, suc}
use mathlib.Core.Path.{◌≡◌, ◌∙◌, ap, sym, subst}
use native.Mathlib.Omega.{arith}
use native.Mathlib.Nat.{add-zero}
use native.Mathlib.Numerals.{add-one}
use Rattle.reading.specs.Answer.{accepted}
use Rattle.reading.specs.Read.{between}
use Rattle.read_forms.specs.Forms.{statement_in}
use Rattle.read_statements.specs.Answers.{reading_at, next_then, NextFurther}
use Rattle.reading.specs.Calls.{counted}
use Rattle.reading_laws.proofs.Calls.{counted-more}
use Rattle.read_text.proofs.count_from.Goals.{In-Some}
use Rattle.read_text.proofs.count_from.Goals as goal

further :
    (d : In-Some)
    → NextFurther d.args.text.now d.loop-read.count d.loop-read.cur.at (Ok (Some d.in-Some.read))
further d = subst (NextFurther _ _ _) (d.in_ok-read.was ∙ ap Ok d.in-Some.is) d.next_statement.ensures.next_further

pub overflow_add-count : goal.overflow_add-count
unfolding NextFurther
overflow_add-count c = let f = further (goal.at.overflow_add-count c).In-Some in record { fits = omega (arith, f.0, f.1, c.loop-read.invariant.few) }

pub loop-read-smaller : goal.loop-read-smaller
unfolding NextFurther
loop-read-smaller c = let f = further (goal.at.loop-read-smaller c).In-Some in omega (arith, f.0, f.1)

pub loop-read-preserved : goal.loop-read-preserved
unfolding next_then NextFurther
loop-read-preserved c =
    let a = c.args in
    let s = a.text.now in
    let g = c.loop-read.invariant in
    let f = further (goal.at.loop-read-preserved c).In-Some in
    let n = c.in-Some.read in
    record {
      same =
          g.same
          ∙ ap (counted c.loop-read.count) (c.next_statement.ensures.at_value ∙ ap (next_then a.limit s c.loop-read.count) (c.in_ok-read.was ∙ ap Ok c.in-Some.is))
          ∙ counted-more c.loop-read.count (statement_in s n.statement) (reading_at a.limit s (suc c.loop-read.count) between n.cursor.at)
          ∙ ap (λ (k : ℕ). counted k (reading_at a.limit s k between n.cursor.at)) (sym (add-one c.loop-read.count));
      few = omega (arith, f.0, g.few);
    }

pub returns : goal.returns
unfolding next_then
returns c =
    let a = c.args in
    let s = a.text.now in
    sym
    (c.loop-read.invariant.same
    ∙ ap (counted c.loop-read.count) (c.next_statement.ensures.at_value ∙ ap (next_then a.limit s c.loop-read.count) (c.in_ok-read.was ∙ ap Ok c.in_default.is))
    ∙ ap accepted (add-zero c.loop-read.count))

pub returns-in_err-read : goal.returns-in_err-read
unfolding next_then
returns-in_err-read c =
    let a = c.args in
    let s = a.text.now in
    let g = c.loop-read.invariant in
    let told : c.from_residual.result ≡ Err c.in_err-read.field-0.0 = search rules in
    rw told
    (sym (g.same ∙ ap (counted c.loop-read.count) (c.next_statement.ensures.at_value ∙ ap (next_then a.limit s c.loop-read.count) c.in_err-read.was)))
