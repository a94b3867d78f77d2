-- `resolve_settling::settle_few` meets its contract: 17, or few terms merged and grouped by scans. Assumes nothing.
use Prim.Native.Nat.{◌≤◌}
use mathlib.Core.Path.{◌≡◌, ap, subst}
use native.Mathlib.Omega.{arith}
use Rattle.resolving.specs.Context.{Context}
use Rattle.resolving.specs.Handed.{handed_context}
use Rattle.std.specs.Prelude as prelude
use Rattle.resolve_merging_few.specs.declared.United.{United}
use Rattle.resolve_merging_few.specs.Merging.{outcome_of, ListedBy}
use Rattle.resolve_settling.specs.Attempts.{AttemptAs, Roomy}
use Rattle.resolve_settling.proofs.Answering.{refused_answers}
use Rattle.resolve_settling.proofs.Settling.{forced-brought, on-merged}
use Rattle.resolve_settling.proofs.Grouping.{few_grounding, same-few}
use Rattle.resolve_settling.proofs.settle_few.Goals.{After-settle_few, In-Ok, Start}
use Rattle.resolve_settling.proofs.settle_few.Goals as goal

abbrev context_of : Start → Context
context_of s = handed_context s.args.block.now s.args.lists.now

few-terms : (m : After-settle_few) → m.args.tally.terms ≤ 2048
few-terms m = omega (arith, m.requires.5)

abbrev counts_of : In-Ok → United
counts_of u = u.in-Ok.united

as_outcome : (u : In-Ok) → outcome_of u.settle_few.result ≡ prelude.Ok (counts_of u).effects
as_outcome u = ap outcome_of u.in-Ok.is

pub settle_few-requires : goal.settle_few-requires
settle_few-requires c =
    (omega (arith, c.requires.5), omega (arith, c.requires.5, c.requires.4), omega arith)

pub returns-in-Err : goal.returns-in-Err
unfolding AttemptAs Roomy
returns-in-Err c = (
  (λ t.
      refused_answers c.refuse.result 17 c.in-Err.again.statement
      (forced-brought t.there (few-terms (goal.at.returns-in-Err c).After-settle_few) c.settle_few.ensures.0 (context_of (goal.at.returns-in-Err c).Start) c.in-Err.again.statement (ap outcome_of c.in-Err.is))
      c.refuse.ensures),
  tt,
)

pub put_made-requires : goal.put_made-requires
put_made-requires c = (
  c.requires.0,
  c.requires.1,
  c.requires.2,
  few_grounding c.requires.3 (few-terms (goal.at.put_made-requires c).After-settle_few) c.settle_few.ensures.0 (counts_of (goal.at.put_made-requires c).In-Ok).effects (as_outcome (goal.at.put_made-requires c).In-Ok)
      (subst (ListedBy _ _) c.in-Ok.is c.settle_few.ensures.1)
      c.requires.5 c.requires.4 (omega arith),
)

pub returns-in-Ok : goal.returns-in-Ok
unfolding few_grounding
returns-in-Ok c = (
  (λ t.
      same-few _ _ _ _ _ _ _ _ c.put_made.result
      (on-merged t.there (few-terms (goal.at.returns-in-Ok c).After-settle_few) c.settle_few.ensures.0 (counts_of (goal.at.returns-in-Ok c).In-Ok).effects (as_outcome (goal.at.returns-in-Ok c).In-Ok) (context_of (goal.at.returns-in-Ok c).Start))
      (c.put_made.ensures.0
      (few_grounding t (few-terms (goal.at.returns-in-Ok c).After-settle_few) c.settle_few.ensures.0 (counts_of (goal.at.returns-in-Ok c).In-Ok).effects (as_outcome (goal.at.returns-in-Ok c).In-Ok)
      (subst (ListedBy _ _) c.in-Ok.is c.settle_few.ensures.1)
      c.requires.5 c.requires.4 (omega arith)))),
  c.put_made.ensures.1,
)
