-- `tokens::number_end` meets its contract: at each return the classes of the two bytes after the digits say whether a fraction
-- follows. Assumes nothing.
use mathlib.Core.Path.{◌∙◌, sym}
use native.Mathlib.Omega.{arith}
use lib.ListN.{drop, length-drop}
use Rattle.tokens.specs.Class.{class_between}
use Rattle.tokens.proofs.Runs.{span-most}
use Rattle.tokens.proofs.Numbers.{ends_last, ends-no-point, ends-no-digit, ends-digits}
use Rattle.tokens.proofs.number_end.Goals as goal

pub overflow_sub-text : goal.overflow_sub-text
overflow_sub-text c =
    let a = c.args in
    omega (
      arith,
      c.run_end-point.ensures,
      c.requires.1,
      simp length-drop at (span-most (class_between 8 8) (drop a.at a.text.now)),
    )

pub returns-then-text-point-lt2 : goal.returns-then-text-point-lt2
returns-then-text-point-lt2 c =
    let a = c.args in
    ends_last a.text.now a.at c.run_end-point.result c.run_end-point.ensures (omega arith)

pub returns-then-class_at-ne-DOT : goal.returns-then-class_at-ne-DOT
returns-then-class_at-ne-DOT c =
    let a = c.args in
    ends-no-point a.text.now a.at c.run_end-point.result c.run_end-point.ensures (omega arith)
    (λ e. c.if-class_at-ne-DOT.true (c.class_at.ensures ∙ e))

pub returns-then-class_at-ne-DIGIT : goal.returns-then-class_at-ne-DIGIT
returns-then-class_at-ne-DIGIT c =
    let a = c.args in
    ends-no-digit a.text.now a.at c.run_end-point.result c.run_end-point.ensures (omega arith)
    (λ e. c.if-class_at-ne-DIGIT.true (c.class_at-2.ensures ∙ e))

pub returns : goal.returns
returns c =
    let a = c.args in
    c.run_end.ensures
    ∙ ends-digits a.text.now a.at c.run_end-point.result c.run_end-point.ensures (omega arith)
    (sym c.class_at.ensures ∙ c.if-class_at-ne-DOT.false)
    (sym c.class_at-2.ensures ∙ c.if-class_at-ne-DIGIT.false)
