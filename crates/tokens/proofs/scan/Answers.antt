-- `tokens::scan` meets its contract. The invariant: a scan from here on finds what a scan of the whole text finds. Assumes nothing.
use mathlib.Core.Path.{refl, ◌∙◌, ap, sym}
use native.Mathlib.Omega.{arith}
use Rattle.tokens.specs.Next.{scanned}
use Rattle.tokens.proofs.Views.{Known, known, known_stray, known-end, known_token}
use Rattle.tokens.proofs.scan.Goals.{After-token_after_blanks-token}
use Rattle.tokens.proofs.scan.Goals as goal

-- what the token's kind tells at the loop's offset
here :
    (d : After-token_after_blanks-token)
    → Known d.args.text.now d.loop-at.at
    d.token_after_blanks-token.result
here d = known _ _ d.token_after_blanks-token.result d.token_after_blanks-token.ensures

pub loop-at-init : goal.loop-at-init
unfolding scanned
loop-at-init c = refl

pub plain_end-end-requires : goal.plain_end-end-requires
unfolding scanned
plain_end-end-requires c = c.requires

pub loop-at-smaller-then-at-end : goal.loop-at-smaller-then-at-end
unfolding scanned
loop-at-smaller-then-at-end c = omega (arith, c.if-at-end.true, c.plain_end-end.ensures.within c.if-at-end.true)

pub loop-at-preserved-then-at-end : goal.loop-at-preserved-then-at-end
unfolding scanned
loop-at-preserved-then-at-end c = sym c.plain_end-end.ensures.same ∙ c.loop-at.invariant

pub token_after_blanks-token-requires : goal.token_after_blanks-token-requires
unfolding scanned
token_after_blanks-token-requires c = c.requires

pub returns-then-token-eq-BAD : goal.returns-then-token-eq-BAD
unfolding scanned
returns-then-token-eq-BAD c = sym (ap scanned (known_stray (here (goal.at.returns-then-token-eq-BAD c).After-token_after_blanks-token) c.if-token-eq-BAD.true)) ∙ c.loop-at.invariant

pub returns-then-token-eq-END : goal.returns-then-token-eq-END
unfolding scanned
returns-then-token-eq-END c = sym (ap scanned (known-end (here (goal.at.returns-then-token-eq-END c).After-token_after_blanks-token) c.if-token-eq-END.true)) ∙ c.loop-at.invariant

pub loop-at-smaller : goal.loop-at-smaller
unfolding scanned
loop-at-smaller c = let r = (known_token (here (goal.at.loop-at-smaller c).After-token_after_blanks-token) c.if-token-eq-BAD.false c.if-token-eq-END.false).reads in
    omega (arith, r.ahead, r.wide, r.within)

pub loop-at-preserved : goal.loop-at-preserved
unfolding scanned
loop-at-preserved c = let r = (known_token (here (goal.at.loop-at-preserved c).After-token_after_blanks-token) c.if-token-eq-BAD.false c.if-token-eq-END.false).reads in
    sym (ap scanned r.tokens) ∙ c.loop-at.invariant
