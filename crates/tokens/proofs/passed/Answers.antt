-- `tokens::passed` meets its contract: the tokens at a blank are those after it, and the tokens at a comment those at its newline.
-- Assumes nothing.
use Prim.Native.Nat.{ℕ, ◌+◌}
use mathlib.Core.Path.{◌≡◌, ◌∙◌, ap, sym}
use native.Mathlib.Omega.{arith}
use lib.ListN.{drop, length-drop}
use Rattle.text.specs.Bytes.{span}
use Rattle.tokens.specs.Class.{class_between}
use Rattle.tokens.specs.Lex.{tokens_at}
use Rattle.tokens.proofs.Runs.{span-most}
use Rattle.tokens.proofs.Steps.{past-blank, past_comment}
use Rattle.tokens.proofs.passed.Goals as goal

pub returns-then-class-eq-BLANK : goal.returns-then-class-eq-BLANK
returns-then-class-eq-BLANK c = let a = c.args in
    let p = c.requires.1 in
    record {
      same = past-blank a.text.now a.at p.inside (sym p.class_is ∙ c.if-class-eq-BLANK.true);
      further = omega arith;
      within = omega (arith, p.inside);
    }

pub returns : goal.returns
returns c = let a = c.args in
    let p = c.requires.1 in
    let r : c.run_end.result ≡ a.at + 1 + span (class_between 1 9) (drop (a.at + 1) a.text.now) = c.run_end.ensures in
    let five : a.class ≡ 5 = omega (arith, p.least, p.most, c.if-class-eq-BLANK.false) in
    record {
      same =
          past_comment a.text.now a.at p.inside (sym p.class_is ∙ five) ∙ ap (λ (n : ℕ). tokens_at n (drop n a.text.now)) (sym r);
      further = omega (arith, r);
      within = omega (arith, r, p.inside, simp length-drop at (span-most (class_between 1 9) (drop (a.at + 1) a.text.now)));
    }
