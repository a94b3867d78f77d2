-- `read_syntax::let_name` meets its contract: a word and a `,`. Assumes nothing.
use mathlib.Core.Path.{refl, ◌∙◌, ap, sym}
use native.Mathlib.Omega.{arith}
use borrow.Author.Tests.{ne_eqb}
use lib.Dec.{lit≤}
use Rattle.reading.specs.Statement.{Name}
use Rattle.reading.specs.Syntax.{turn, let_open, let_named, let_call}
use Rattle.reading.specs.Syntax as syntax
use Rattle.tokens.proofs.Views.{Known, known, known-word, known-mark}
use Rattle.read_arguments.specs.Answers.{read_in, refused_by}
use Rattle.read_arguments.proofs.Reading.{read_token, rejected}
use Rattle.read_arguments.proofs.Names.{same_name}
use Rattle.read_syntax.specs.Answers.{opened_then, OpenedFurther}
use Rattle.read_syntax.proofs.let_name.Goals.{After-token-comma, After-token-token}
use Rattle.read_syntax.proofs.let_name.Goals as goal

-- what the token's kind tells
here : (d : After-token-token) → Known d.args.text.now d.args.cur.at d.token-token.result
here d = known _ _ d.token-token.result d.token-token.ensures

beyond :
    (e : After-token-comma)
    → Known e.args.text.now e.token-token.result.next.at
    e.token-comma.result
beyond e = known _ _ e.token-comma.result e.token-comma.ensures

pub returns-then-token-ne-WORD : goal.returns-then-token-ne-WORD
unfolding turn opened_then OpenedFurther
returns-then-token-ne-WORD c = record {
  by_index = (λ limit k.
      rejected limit _ let_open _ c.token-token.result (here (goal.at.returns-then-token-ne-WORD c).After-token-token) (λ w e. absurd (c.if-token-ne-WORD.true e)) (λ w e. refl) (λ h. refl)
      ∙ ap refused_by (sym c.unexpected.ensures));
  opened_further = tt;
}

pub returns-then-comma-ne44 : goal.returns-then-comma-ne44
unfolding turn opened_then OpenedFurther
returns-then-comma-ne44 c =
    let r = known-word (here (goal.at.returns-then-comma-ne44 c).After-token-token) c.if-token-ne-WORD.false in record {
      by_index = (λ limit k.
          read_token limit _ let_open _ _ _ r
          ∙ rejected limit _ (let_named _) _ c.token-comma.result (beyond (goal.at.returns-then-comma-ne44 c).After-token-comma) (λ w q. refl) (λ w q. refl)
          (λ h. simp (ne_eqb _ 44 c.if-comma-ne44.true))
          ∙ ap refused_by (sym c.unexpected-then-comma-ne44.ensures));
      opened_further = tt;
    }

pub named-name-requires : goal.named-name-requires
named-name-requires c =
    let r = known-word (here (goal.at.named-name-requires c).After-token-token) c.if-token-ne-WORD.false in
    omega (arith, r.wide)

pub returns : goal.returns
unfolding turn opened_then OpenedFurther
returns c =
    let s = c.args.text.now in
    let r = known-word (here (goal.at.returns c).After-token-token) c.if-token-ne-WORD.false in
    let q = known-mark (beyond (goal.at.returns c).After-token-comma) 44 c.if-comma-ne44.false (lit≤ tt) in record {
      by_index = (λ limit k.
          read_token limit _ let_open _ _ _ r
          ∙ read_token limit _ (let_named _) _ _ _ q
          ∙ ap (λ (n : Name). read_in limit s (syntax.argument (let_call n)) c.token-comma.result.next.at)
          (same_name s c.token-token.result c.named-name.ensures));
      opened_further = (omega (arith, r.ahead, r.wide, q.ahead, q.wide), q.within);
    }
