-- `resolve_merging_few::forced` meets its contract.
-- Assumes nothing.
use Rattle.std.proofs.Common.{sym, ◌∙◌, take, get_or, rules, tests}
use Rattle.std.proofs.lemmas.Iterator.{YieldsList-from_slice}
use Rattle.std.proofs.lemmas.Iterator.Search.{any_from_yields_List}
use borrow.Author.Tests.{eq-eqb}
use Rattle.resolve_merging.proofs.Scans.{any-list_any}
use Rattle.resolve_merging_few.specs.Sought as sought
use Rattle.resolve_merging_few.specs.Scans.{passes_by}
use Rattle.resolve_merging_few.proofs.forced.Goals as goal

pub returns-then-w-eq0 : goal.returns-then-w-eq0
returns-then-w-eq0 c =
    let seen = take c.args.i c.args.work.now in
    let test = passes_by (sought.ForcesBefore (get_or c.args.work.now c.args.i 0)) in
    rw (eq-eqb _ _ c.if-w-eq0.true)
    (any_from_yields_List test _ _ c.any.result c.any.ensures.ran (YieldsList-from_slice seen c.iter.ensures.rest) (λ x b q k. search (rules, tests)) ∙ sym (any-list_any test seen))
