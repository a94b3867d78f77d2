-- `read_syntax::open_feature` meets its contract: `(`, or `?` and `(`. Assumes nothing.
use mathlib.Core.Path.{refl, ◌∙◌, ap, sym}
use native.Mathlib.Omega.{arith}
use borrow.Author.Tests.{ne_eqb}
use lib.Dec.{lit≤}
use Rattle.reading.specs.Syntax.{turn, keyword, marked}
use Rattle.tokens.proofs.Views.{Known, known, known-mark}
use Rattle.read_arguments.specs.Answers.{refused_by}
use Rattle.read_arguments.proofs.Reading.{read_token, rejected}
use Rattle.read_syntax.specs.Answers.{opened_then, OpenedFurther}
use Rattle.read_syntax.proofs.open_feature.Goals.{After-token-second, After-token-token}
use Rattle.read_syntax.proofs.open_feature.Goals as goal

-- what the token's kind tells
here : (d : After-token-token) → Known d.args.text.now d.args.cur.at d.token-token.result
here d = known _ _ d.token-token.result d.token-token.ensures

beyond :
    (e : After-token-second)
    → Known e.args.text.now
    e.token-token.result.next.at e.token-second.result
beyond e = known _ _ e.token-second.result e.token-second.ensures

pub returns-then-token-eq40 : goal.returns-then-token-eq40
unfolding turn opened_then OpenedFurther
returns-then-token-eq40 c =
    let r = known-mark (here (goal.at.returns-then-token-eq40 c).After-token-token) 40 c.if-token-eq40.true (lit≤ tt) in record { by_index = (λ limit k. read_token limit _ (keyword k) _ _ _ r); opened_further = (omega (arith, r.ahead, r.wide), r.within) }

pub returns-then-token-ne63 : goal.returns-then-token-ne63
unfolding turn opened_then OpenedFurther
returns-then-token-ne63 c = record {
  by_index = (λ limit k.
      rejected limit _ (keyword k) _ c.token-token.result (here (goal.at.returns-then-token-ne63 c).After-token-token) (λ w e. refl) (λ w e. refl)
      (λ h. simp (ne_eqb _ 63 c.if-token-ne63.true, ne_eqb _ 40 c.if-token-eq40.false))
      ∙ ap refused_by (sym c.unexpected.ensures));
  opened_further = tt;
}

pub returns-then-second-ne40 : goal.returns-then-second-ne40
unfolding turn opened_then OpenedFurther
returns-then-second-ne40 c =
    let r = known-mark (here (goal.at.returns-then-second-ne40 c).After-token-token) 63 c.if-token-ne63.false (lit≤ tt) in record {
      by_index = (λ limit k.
          read_token limit _ (keyword k) _ _ _ r
          ∙ rejected limit _ (marked k) _ c.token-second.result (beyond (goal.at.returns-then-second-ne40 c).After-token-second) (λ w q. refl) (λ w q. refl)
          (λ h. simp (ne_eqb _ 40 c.if-second-ne40.true))
          ∙ ap refused_by (sym c.unexpected-then-second-ne40.ensures));
      opened_further = tt;
    }

pub returns : goal.returns
unfolding turn opened_then OpenedFurther
returns c =
    let r = known-mark (here (goal.at.returns c).After-token-token) 63 c.if-token-ne63.false (lit≤ tt) in
    let q = known-mark (beyond (goal.at.returns c).After-token-second) 40 c.if-second-ne40.false (lit≤ tt) in record { by_index = (λ limit k. read_token limit _ (keyword k) _ _ _ r ∙ read_token limit _ (marked k) _ _ _ q); opened_further = (omega (arith, r.ahead, r.wide, q.ahead, q.wide), q.within) }
