-- `read_arguments::range_of` meets its contract: what each end is as a count says what becomes of the range. Assumes nothing.
use Rattle.std.specs.Prelude.{Err}
use Rattle.std.proofs.Common.{rules, arith, ◌≡◌, ap, sym}
use Rattle.reading.specs.Answer.{Answer}
use Rattle.reading.specs.Argument.{Arg}
use Rattle.reading.specs.Syntax.{range_read}
use Rattle.read_forms.specs.Items.{name_in}
use Rattle.read_forms.specs.Forms.{arg_in}
use Rattle.read_forms.specs.Fits.{Fits}
use Rattle.read_arguments.specs.Answers.{step_in, arg_then, ArgFurther}
use Rattle.read_arguments.proofs.Ranges.{low_bad, high-bad, ends-backwards, ends-fine}
use Rattle.read_arguments.proofs.range_of.Goals as goal

pub returns-in_err-a : goal.returns-in_err-a
unfolding arg_then ArgFurther
returns-in_err-a c =
    let a = c.args in
    let s = a.text.now in
    let told : c.from_residual.result ≡ Err c.in_err-a.field-0.0 = search rules in
    let low = rw c.in_err-a.was at c.judge_count.ensures in
    rw told
    (record {
      at_value = λ call.
          ap (λ (x : Answer Arg). step_in a.limit s (range_read call x) a.next.at)
          (low_bad a.limit (name_in s a.low) (name_in s a.high) _ _ (sym low));
      arg_further = tt;
    })

pub returns-in_err-b : goal.returns-in_err-b
unfolding arg_then ArgFurther
returns-in_err-b c =
    let a = c.args in
    let s = a.text.now in
    let told : c.from_residual-in_err-b.result ≡ Err c.in_err-b.field-0.0 = search rules in
    let low = rw c.in_ok-a.was at c.judge_count.ensures in
    let high = rw c.in_err-b.was at c.judge_count-2.ensures in
    rw told
    (record {
      at_value = λ call.
          ap (λ (x : Answer Arg). step_in a.limit s (range_read call x) a.next.at)
          (high-bad a.limit (name_in s a.low) (name_in s a.high) c.in_ok-a.a (sym low) _ _ (sym high));
      arg_further = tt;
    })

pub returns-then-b-a : goal.returns-then-b-a
unfolding arg_then ArgFurther
returns-then-b-a c =
    let a = c.args in
    let s = a.text.now in
    let low = rw c.in_ok-a.was at c.judge_count.ensures in
    let high = rw c.in_ok-b.was at c.judge_count-2.ensures in
    record {
      at_value = λ call.
          ap (λ (x : Answer Arg). step_in a.limit s (range_read call x) a.next.at)
          (ends-backwards a.limit (name_in s a.low) (name_in s a.high) c.in_ok-a.a (sym low) c.in_ok-b.b (sym high) c.if-b-a.true);
      arg_further = tt;
    }

pub returns : goal.returns
unfolding arg_then ArgFurther arg_in Fits
returns c =
    let a = c.args in
    let s = a.text.now in
    let low = rw c.in_ok-a.was at c.judge_count.ensures in
    let high = rw c.in_ok-b.was at c.judge_count-2.ensures in
    record {
      at_value = λ call.
          ap (λ (x : Answer Arg). step_in a.limit s (range_read call x) a.next.at)
          (ends-fine a.limit (name_in s a.low) (name_in s a.high) c.in_ok-a.a (sym low) c.in_ok-b.b (sym high) c.if-b-a.false);
      arg_further = (omega arith, c.requires.2, tt);
    }
