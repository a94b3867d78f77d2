-- `read_statements::completed` meets its contract: what stands behind the statement decides. Assumes nothing.
use Rattle.std.specs.Prelude.{Err}
use Rattle.std.proofs.Common.{rules, ◌≡◌}
use Prim.Native.Nat.{ℕ, ◌+◌}
use mathlib.Core.Path.{◌∙◌, ap, sym, subst}
use native.Mathlib.Omega.{arith}
use native.Mathlib.Numerals.{add-one}
use Rattle.reading.specs.Read.{Where, between, prepend}
use Rattle.read_forms.specs.Forms.{statement_in}
use Rattle.read_statements.specs.Answers.{reading_at, EndedThen, EndedFurther, next_then, NextFrom}
use Rattle.read_statements.proofs.completed.Goals as goal

pub returns : goal.returns
unfolding next_then NextFrom EndedThen EndedFurther
returns c =
    let a = c.args in
    let t = a.text.now in
    let h = subst (EndedFurther t a.cur.at) c.in_ok-cursor.was c.behind.ensures.ended_further in record {
      by_index = λ limit.
          ap (prepend (statement_in t a.form))
          (ap (λ (k : ℕ). reading_at limit t k Where.ended a.cur.at) (sym (add-one a.n))
          ∙ subst (EndedThen limit t (a.n + 1) a.cur.at) c.in_ok-cursor.was (c.behind.ensures.by_index limit)
          ∙ ap (λ (k : ℕ). reading_at limit t k between c.in_ok-cursor.cursor.at) (add-one a.n));
      next_from = (h.0 c.requires.2, h.1);
    }

pub returns-in_err-cursor : goal.returns-in_err-cursor
unfolding next_then NextFrom EndedThen
returns-in_err-cursor c =
    let a = c.args in
    let t = a.text.now in
    let told : c.from_residual.result ≡ Err c.in_err-cursor.field-0.0 = search rules in
    rw told
    (record {
      by_index = λ limit.
          ap (prepend (statement_in t a.form))
          (ap (λ (k : ℕ). reading_at limit t k Where.ended a.cur.at) (sym (add-one a.n))
          ∙ subst (EndedThen limit t (a.n + 1) a.cur.at) c.in_err-cursor.was (c.behind.ensures.by_index limit));
      next_from = tt;
    })

pub overflow_add-n : goal.overflow_add-n
overflow_add-n c = omega (arith, c.requires.1)
