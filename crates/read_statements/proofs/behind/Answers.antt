-- `read_statements::behind` meets its contract: a separator or the text's end may follow a statement, and reading goes on behind it.
-- Assumes nothing.
use mathlib.Core.Path.{◌∙◌, ap, sym}
use native.Mathlib.Omega.{arith}
use lib.Dec.{lit≤}
use Rattle.tokens.proofs.Views.{Known, known, known-mark, known-end}
use Rattle.read_statements.specs.Answers.{EndedThen, EndedFurther}
use Rattle.read_statements.proofs.Whole.{refused_as, ended_crowded, ended-separator, ended-finish, ends_at}
use Rattle.read_statements.proofs.behind.Goals.{After-token-token, then-token-eq59-via-then-token-eq59, then-token-eq59-via-else-token-eq59+then-token-eq-END}
use Rattle.read_statements.proofs.behind.Goals as goal

-- what the token's kind tells
here : (d : After-token-token) → Known d.args.text.now d.args.cur.at d.token-token.result
here d = known _ _ d.token-token.result d.token-token.ensures

-- a separator or the text's end
pub returns-then-token-eq59 : goal.returns-then-token-eq59
unfolding EndedThen EndedFurther
returns-then-token-eq59 c =
    let k = here (goal.at.returns-then-token-eq59 c).After-token-token in
    let t = c.token-token.result in
    elim c.then-token-eq59.branch [
      | then-token-eq59-via-then-token-eq59 w ↦
          let r = known-mark k 59 w.if-token-eq59.true (lit≤ tt) in
          record { by_index = λ limit. ended-separator limit _ _ _ t r; ended_further = (λ h. omega (arith, r.ahead, r.wide), r.within) }
      | then-token-eq59-via-else-token-eq59+then-token-eq-END w ↦
          let l = ends_at k w.if-token-eq-END.true in
          record {
            by_index = λ limit. ended-finish limit _ _ _ t (known-end k w.if-token-eq-END.true) l;
            ended_further = (λ h. omega (arith, l), omega (arith, l));
          }
    ]

pub returns : goal.returns
unfolding EndedThen EndedFurther
returns c = record {
  by_index = λ limit.
      ended_crowded limit _ _ _ c.token-token.result (here (goal.at.returns c).After-token-token) c.if-token-eq59.false c.if-token-eq-END.false
      ∙ ap refused_as (sym c.crowded.ensures);
  ended_further = tt;
}
