-- `print_lines::closing_from` meets its contract. The invariant: a statement that is in reading here ends where it ends from the start on; each
-- turn passes a token of it. Assumes nothing.
use mathlib.Core.Path.{◌∙◌}
use native.Mathlib.Omega.{arith}
use lib.Dec.{lit≤}
use Rattle.tokens.proofs.Views.{Known, known, known-mark, known_token}
use Rattle.print_lines.proofs.Walking.{statement-goes_on, statement_ends, text_ends}
use Rattle.print_lines.proofs.closing_from.Goals.{After-token-token, then-token-eq41-via-then-token-eq41, then-token-eq41-via-else-token-eq41+then-token-eq-BAD, then-token-eq41-via-else-token-eq41+else-token-eq-BAD+then-token-eq-END}
use Rattle.print_lines.proofs.closing_from.Goals as goal

-- what the token's kind tells
here : (d : After-token-token) → Known d.args.text.now d.loop-token.cur.at d.token-token.result
here d = known _ _ d.token-token.result d.token-token.ensures

pub returns-then-token-eq41-clause-by_index : goal.returns-then-token-eq41-clause-by_index
returns-then-token-eq41-clause-by_index c a =
    let h = here (goal.at.returns-then-token-eq41-clause-by_index c).After-token-token in
    c.loop-token.invariant a ∙
    elim c.then-token-eq41.branch [
      | then-token-eq41-via-then-token-eq41 w ↦ statement_ends h w.if-token-eq41.true a
      | then-token-eq41-via-else-token-eq41+then-token-eq-BAD w ↦ let k = w.if-token-eq-BAD.true in text_ends h (omega (arith, k)) (omega (arith, k)) a
      | then-token-eq41-via-else-token-eq41+else-token-eq-BAD+then-token-eq-END w ↦ let k = w.if-token-eq-END.true in text_ends h (omega (arith, k)) (omega (arith, k)) a
    ]

pub returns-then-token-eq41-clause-start_in_bounds : goal.returns-then-token-eq41-clause-start_in_bounds
returns-then-token-eq41-clause-start_in_bounds c k =
    let r = known-mark (here (goal.at.returns-then-token-eq41-clause-start_in_bounds c).After-token-token) 41 k (lit≤ tt) in
    omega (arith, r.wide, r.within)

pub loop-token-smaller : goal.loop-token-smaller
loop-token-smaller c =
    let r = (known_token (here (goal.at.loop-token-smaller c).After-token-token) c.if-token-eq-BAD.false c.if-token-eq-END.false).reads in
    omega (arith, r.ahead, r.wide, r.within)

pub loop-token-preserved : goal.loop-token-preserved
loop-token-preserved c =
    λ a. c.loop-token.invariant a
    ∙ statement-goes_on (here (goal.at.loop-token-preserved c).After-token-token) c.if-token-eq41.false c.if-token-eq-BAD.false c.if-token-eq-END.false a
