-- `read_syntax::open_let` meets its contract: `(`, and then the name. Assumes nothing.
use mathlib.Core.Path.{refl, ◌∙◌, ap, sym}
use native.Mathlib.Omega.{arith}
use borrow.Author.Tests.{ne_eqb}
use lib.Dec.{lit≤}
use Rattle.reading.specs.Syntax.{turn, let_keyword}
use Rattle.tokens.proofs.Views.{Known, known, known-mark}
use Rattle.read_arguments.specs.Answers.{refused_by}
use Rattle.read_arguments.proofs.Reading.{read_token, rejected}
use Rattle.read_syntax.specs.Answers.{opened_then, OpenedFurther}
use Rattle.read_syntax.proofs.Going.{opened-further}
use Rattle.read_syntax.proofs.open_let.Goals.{After-token-token}
use Rattle.read_syntax.proofs.open_let.Goals as goal

-- what the token's kind tells
here : (d : After-token-token) → Known d.args.text.now d.args.cur.at d.token-token.result
here d = known _ _ d.token-token.result d.token-token.ensures

pub returns-then-token-ne40 : goal.returns-then-token-ne40
unfolding turn opened_then OpenedFurther
returns-then-token-ne40 c = record {
  by_index = (λ limit k.
      rejected limit _ let_keyword _ c.token-token.result (here (goal.at.returns-then-token-ne40 c).After-token-token) (λ w e. refl) (λ w e. refl)
      (λ h. simp (ne_eqb _ 40 c.if-token-ne40.true))
      ∙ ap refused_by (sym c.unexpected.ensures));
  opened_further = tt;
}

pub returns : goal.returns
unfolding turn
returns c =
    let r = known-mark (here (goal.at.returns c).After-token-token) 40 c.if-token-ne40.false (lit≤ tt) in record { by_index = (λ limit k. read_token limit _ let_keyword _ _ _ r ∙ c.let_name.ensures.by_index limit k); opened_further = opened-further _ _ _ c.let_name.result (omega (arith, r.ahead, r.wide)) c.let_name.ensures.opened_further }
