-- `tokens::dots` meets its contract: a point stands at the offset, and what follows it says which case of the definition holds.
-- Assumes nothing.
use Prim.Native.Nat.{◌+◌, ◌<◌}
use mathlib.Core.Path.{◌∙◌, ap, sym}
use native.Mathlib.Omega.{arith}
use lib.ListN.{length}
use Rattle.tokens.specs.Next.{first, lexed_as}
use Rattle.tokens.proofs.Steps.{at_last_point, at_two-points, at_one_point}
use Rattle.tokens.proofs.dots.Goals.{After-class_at}
use Rattle.tokens.proofs.dots.Goals as goal

pub returns-then-text-start-lt2 : goal.returns-then-text-start-lt2
unfolding first
returns-then-text-start-lt2 c =
    let a = c.args in
    let p = c.requires.1 in
    sym (ap first (at_last_point a.text.now a.start p.inside p.is_point (omega (arith, p.inside, c.if-text-start-lt2.true))))

-- there is a byte after the point
more : (d : After-class_at) → d.args.start + 1 < length d.args.text.now
more d = omega (arith, d.requires.1.inside, d.if-text-start-lt2.false)

pub returns-then-class_at-eq-DOT : goal.returns-then-class_at-eq-DOT
unfolding first lexed_as
returns-then-class_at-eq-DOT c = let p = c.requires.1 in
    sym (ap first (at_two-points _ _ p.inside p.is_point (more (goal.at.returns-then-class_at-eq-DOT c).After-class_at) (sym c.class_at.ensures ∙ c.if-class_at-eq-DOT.true)))

pub returns : goal.returns
unfolding first lexed_as
returns c = let p = c.requires.1 in
    sym (ap first (at_one_point _ _ p.inside p.is_point (more (goal.at.returns c).After-class_at) (λ e. c.if-class_at-eq-DOT.false (c.class_at.ensures ∙ e))))
