-- `print_lines::first_from` meets its contract. The invariant: the statements from here on are those from the start; each turn passes a separator.
-- Assumes nothing.
use mathlib.Core.Path.{refl, ◌∙◌}
use native.Mathlib.Omega.{arith}
use lib.Dec.{lit≤}
use Rattle.tokens.proofs.Views.{Known, known, known-mark}
use Rattle.print_lines.proofs.Walking.{separator-passed, statement-starts}
use Rattle.print_lines.proofs.first_from.Goals.{After-token-token}
use Rattle.print_lines.proofs.first_from.Goals as goal

-- what the token's kind tells
here : (d : After-token-token) → Known d.args.text.now d.loop-token.cur.at d.token-token.result
here d = known _ _ d.token-token.result d.token-token.ensures

pub loop-token-init : goal.loop-token-init
loop-token-init c = refl

pub token-token-requires : goal.token-token-requires
token-token-requires c = c.requires

pub returns-then-token-ne59 : goal.returns-then-token-ne59
returns-then-token-ne59 c = c.loop-token.invariant ∙ statement-starts (here (goal.at.returns-then-token-ne59 c).After-token-token) c.if-token-ne59.true

pub loop-token-smaller : goal.loop-token-smaller
loop-token-smaller c = let r = known-mark (here (goal.at.loop-token-smaller c).After-token-token) 59 c.if-token-ne59.false (lit≤ tt) in
    omega (arith, r.ahead, r.wide, r.within)

pub loop-token-preserved : goal.loop-token-preserved
loop-token-preserved c = let r = known-mark (here (goal.at.loop-token-preserved c).After-token-token) 59 c.if-token-ne59.false (lit≤ tt) in
    c.loop-token.invariant ∙ separator-passed r
