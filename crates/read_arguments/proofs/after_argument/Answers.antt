-- `read_arguments::after_argument` meets its contract: the token's kind says what it makes of an argument that is read. Assumes nothing.
use mathlib.Core.Path.{refl, ◌∙◌, ap, sym}
use native.Mathlib.Omega.{arith}
use borrow.Author.Tests.{ne_eqb}
use lib.Dec.{lit≤}
use Rattle.reading.specs.Syntax.{turn, argument_read}
use Rattle.tokens.proofs.Views.{Known, known, known-mark}
use Rattle.read_arguments.specs.Answers.{refused_by, after_then, AfterFurther}
use Rattle.read_arguments.proofs.Reading.{read_token, rejected}
use Rattle.read_arguments.proofs.after_argument.Goals.{After-token-token}
use Rattle.read_arguments.proofs.after_argument.Goals as goal

-- what the token's kind tells
here : (d : After-token-token) → Known d.args.text.now d.args.cur.at d.token-token.result
here d = known _ _ d.token-token.result d.token-token.ensures

pub returns-then-token-eq44 : goal.returns-then-token-eq44
unfolding turn after_then AfterFurther
returns-then-token-eq44 c =
    let r = known-mark (here (goal.at.returns-then-token-eq44 c).After-token-token) 44 c.if-token-eq44.true (lit≤ tt) in record { by_index = (λ limit call a. read_token limit _ (argument_read call a) _ _ _ r); after_further = (omega (arith, r.ahead, r.wide), r.within) }

pub returns-then-token-eq41 : goal.returns-then-token-eq41
unfolding turn after_then AfterFurther
returns-then-token-eq41 c =
    let r = known-mark (here (goal.at.returns-then-token-eq41 c).After-token-token) 41 c.if-token-eq41.true (lit≤ tt) in record { by_index = (λ limit call a. read_token limit _ (argument_read call a) _ _ _ r); after_further = (omega (arith, r.ahead, r.wide), r.within) }

pub returns : goal.returns
unfolding turn after_then AfterFurther
returns c = record {
  by_index = (λ limit call a.
      rejected limit _ (argument_read call a) _ c.token-token.result (here (goal.at.returns c).After-token-token) (λ w e. refl) (λ w e. refl)
      (λ h. simp (ne_eqb _ _ c.if-token-eq44.false, ne_eqb _ _ c.if-token-eq41.false))
      ∙ ap refused_by (sym c.unexpected.ensures));
  after_further = tt;
}
