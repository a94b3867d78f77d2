-- `read_syntax::read_call` meets its contract: what opens the call, and then the arguments. Assumes nothing.
use Rattle.std.specs.Prelude.{Err}
use Rattle.std.proofs.Common.{rules, ◌≡◌}
use mathlib.Core.Path.{◌∙◌, ap, subst}
use native.Mathlib.Omega.{arith}
use Rattle.read_syntax.specs.Answers.{opened_then, OpenedFurther, call_then, CallFurther}
use Rattle.read_syntax.proofs.Going.{call_further}
use Rattle.read_syntax.proofs.read_call.Goals as goal

pub returns : goal.returns
unfolding opened_then OpenedFurther
returns c =
    let a = c.args in
    let s = a.text.now in
    let f = subst (OpenedFurther s a.cur.at) c.in_ok-opened.was c.open_call.ensures.opened_further in record {
      at_value = λ k. c.open_call.ensures.by_index a.limit k ∙ ap (opened_then a.limit s k) c.in_ok-opened.was ∙ c.read_args.ensures.at_value k;
      call_further = call_further s _ _ c.read_args.result (omega (arith, f.0)) c.read_args.ensures.call_further;
    }

pub returns-in_err-opened : goal.returns-in_err-opened
unfolding opened_then call_then CallFurther
returns-in_err-opened c =
    let a = c.args in
    let told : c.from_residual.result ≡ Err c.in_err-opened.field-0.0 = search rules in
    rw told
    (record {
      at_value = λ k. c.open_call.ensures.by_index a.limit k ∙ ap (opened_then a.limit a.text.now k) c.in_err-opened.was;
      call_further = tt;
    })
