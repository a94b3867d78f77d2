-- `resolve_settling::settle_many` meets its contract: 18 for the terms, 17, 18 for the groups, and then what is grouped. Assumes nothing.
use Prim.Native.Nat.{◌≤◌}
use native.Mathlib.Omega.{arith}
use mathlib.Core.Path.{refl}
use Rattle.resolving.specs.Context.{Context}
use Rattle.resolving.specs.Handed.{handed_context}
use Rattle.resolve_merging.proofs.Answers.{merged-plain}
use Rattle.resolve_settling.specs.Attempts.{AttemptAs, Roomy}
use Rattle.resolve_settling.proofs.Answering.{refused_answers}
use Rattle.resolve_settling.proofs.Settling.{over-brought, forced-brought, on-merged, over-grouped}
use Rattle.resolve_settling.proofs.Grouping.{many_grounding, same-few}
use Rattle.resolve_settling.proofs.settle_many.Goals.{After-settle, Start}
use Rattle.resolve_settling.proofs.settle_many.Goals as goal

abbrev context_of : Start → Context
context_of s = handed_context s.args.block.now s.args.lists.now

pub returns-then-tally-gt-TERMS : goal.returns-then-tally-gt-TERMS
unfolding AttemptAs Roomy
returns-then-tally-gt-TERMS c = (
  (λ t. refused_answers c.refuse.result 18 0 (over-brought t.there (context_of (goal.at.returns-then-tally-gt-TERMS c).Start) c.if-tally-gt-TERMS.true) c.refuse.ensures),
  tt,
)

pub settle-requires : goal.settle-requires
settle-requires c = c.if-tally-gt-TERMS.false

-- few terms
few-terms : (m : After-settle) → m.args.tally.terms ≤ 2048
few-terms m = m.if-tally-gt-TERMS.false

pub returns-in-Err : goal.returns-in-Err
unfolding AttemptAs Roomy
returns-in-Err c = (
  (λ t.
      refused_answers c.refuse-in-Err.result 17 c.in-Err.again.statement
      (forced-brought t.there (few-terms (goal.at.returns-in-Err c).After-settle) c.settle.ensures (context_of (goal.at.returns-in-Err c).Start) c.in-Err.again.statement c.in-Err.is)
      c.refuse-in-Err.ensures),
  tt,
)

pub group-requires : goal.group-requires
group-requires c = (
  omega (arith, few-terms (goal.at.group-requires c).After-settle, (merged-plain c.settle.ensures c.in-Ok.is).0),
  (merged-plain c.settle.ensures c.in-Ok.is).1,
)

pub returns-in_default : goal.returns-in_default
unfolding AttemptAs Roomy
returns-in_default c = (
  (λ t.
      refused_answers c.refuse-in_default.result 18 0
      (over-grouped t.there (few-terms (goal.at.returns-in_default c).After-settle) c.settle.ensures c.in-Ok.count c.in-Ok.is (context_of (goal.at.returns-in_default c).Start) c.in_default.ensures
      refl)
      c.refuse-in_default.ensures),
  tt,
)

pub put_made-requires : goal.put_made-requires
put_made-requires c = (
  c.requires.0,
  c.requires.1,
  c.requires.2,
  many_grounding c.requires.3 (few-terms (goal.at.put_made-requires c).After-settle) c.settle.ensures c.in-Ok.count c.in-Ok.is c.group.ensures c.in-Some.is (omega (arith, c.fits-bench)),
)

pub returns : goal.returns
unfolding many_grounding
returns c = (
  (λ t.
      same-few _ _ _ _ _ _ _ _ c.put_made.result
      (on-merged t.there (few-terms (goal.at.returns c).After-settle) c.settle.ensures c.in-Ok.count c.in-Ok.is (context_of (goal.at.returns c).Start))
      (c.put_made.ensures.0
      (many_grounding t (few-terms (goal.at.returns c).After-settle) c.settle.ensures c.in-Ok.count c.in-Ok.is c.group.ensures c.in-Some.is (omega (arith, c.fits-bench))))),
  c.put_made.ensures.1,
)
