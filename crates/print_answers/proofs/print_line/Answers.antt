-- `print_answers::print_line` meets its contract: what Print left in the page and a newline, or over the page's start a refusal's line.
-- Assumes nothing.
use mathlib.Core.Path.{subst}
use native.Mathlib.Omega.{arith}
use Rattle.canonical.specs.Print.{print_text, Answers}
use Rattle.std.specs.Prelude.{Result}
use Prim.Native.Nat.{ℕ}
use Rattle.read_forms.specs.declared.Refusal.{Refusal}
use Rattle.read_forms.specs.Faults.{answered, same}
use Rattle.print_answers.proofs.Lines.{told, length-small, printed-line, refused-line}
use Rattle.print_answers.proofs.print_line.Goals as goal

pub print_under-requires : goal.print_under-requires
print_under-requires c = let p = c.requires in (p.0, p.1, p.2)

pub put-requires : goal.put-requires
put-requires c =
    let w = subst (λ (x : Result ℕ Refusal). Answers (print_text c.args.limit c.args.text.now) c.args.page.now c.print_under.new.out (answered same x)) c.in-Ok.is c.print_under.ensures in
    omega (arith, length-small c.args.limit c.args.text.now c.args.page.now c.print_under.new.out c.requires.3 w)

pub returns-in-Ok : goal.returns-in-Ok
returns-in-Ok c =
    let w = subst (λ (x : Result ℕ Refusal). Answers (print_text c.args.limit c.args.text.now) c.args.page.now c.print_under.new.out (answered same x)) c.in-Ok.is c.print_under.ensures in record { written = printed-line c.args.limit c.args.text.now c.args.page.now c.print_under.new.out c.requires.3 w c.put.ensures; answer_value = told c.args.limit c.args.text.now c.args.page.now c.print_under.new.out c.requires.3 w }

pub returns-in-Err : goal.returns-in-Err
returns-in-Err c =
    let w = subst (λ (x : Result ℕ Refusal). Answers (print_text c.args.limit c.args.text.now) c.args.page.now c.print_under.new.out (answered same x)) c.in-Err.is c.print_under.ensures in record { written = refused-line c.args.limit c.args.text.now c.args.page.now c.print_under.new.out c.requires.3 w c.put_refused.ensures; answer_value = told c.args.limit c.args.text.now c.args.page.now c.print_under.new.out c.requires.3 w }
