-- `read_statements::first_token` meets its contract. The invariant: reading from here on is reading from the start. Assumes nothing.
use mathlib.Core.Path.{refl, ◌∙◌}
use native.Mathlib.Omega.{arith}
use lib.Dec.{lit≤}
use Rattle.tokens.proofs.Views.{Known, known, known-mark}
use Rattle.read_statements.proofs.Whole.{past-separator}
use Rattle.read_statements.proofs.first_token.Goals.{After-token_after_blanks-token}
use Rattle.read_statements.proofs.first_token.Goals as goal

here : (d : After-token_after_blanks-token) → Known d.args.text.now d.loop-token.from.at d.token_after_blanks-token.result
here d = known _ _ d.token_after_blanks-token.result d.token_after_blanks-token.ensures

pub loop-token-init : goal.loop-token-init
loop-token-init c = record { same = λ limit n. refl; ahead = omega arith }

pub token_after_blanks-token-requires : goal.token_after_blanks-token-requires
token_after_blanks-token-requires c = c.requires

pub returns-then-token-ne59 : goal.returns-then-token-ne59
returns-then-token-ne59 c =
    let g = c.loop-token.invariant in
    record {
      place = c.loop-token.from.at;
      stands = c.token_after_blanks-token.ensures;
      same = g.same;
      other = c.if-token-ne59.true;
      ahead = g.ahead;
    }

pub loop-token-smaller : goal.loop-token-smaller
loop-token-smaller c =
    let r = known-mark (here (goal.at.loop-token-smaller c).After-token_after_blanks-token) 59 c.if-token-ne59.false (lit≤ tt) in
    omega (arith, r.ahead, r.wide, r.within)

pub loop-token-preserved : goal.loop-token-preserved
loop-token-preserved c =
    let r = known-mark (here (goal.at.loop-token-preserved c).After-token_after_blanks-token) 59 c.if-token-ne59.false (lit≤ tt) in
    let g = c.loop-token.invariant in
    record {
      same = λ limit n. g.same limit n ∙ past-separator limit _ n _ c.token_after_blanks-token.result r;
      ahead = omega (arith, r.ahead, r.wide, g.ahead);
    }
