-- `resolve_merging_few::remain` meets its contract: if no term is explicit, all stay.
-- Assumes nothing.
use Rattle.std.proofs.Common.{sym, ◌∙◌, take, rules, tests}
use Rattle.std.proofs.lemmas.Iterator.{YieldsList-from_slice}
use Rattle.std.proofs.lemmas.Iterator.Search.{any_from_yields_List}
use Rattle.resolve_merging.proofs.Scans.{any-list_any}
use Rattle.resolve_merging_few.specs.Sought as sought
use Rattle.resolve_merging_few.specs.Scans.{passes_by}
use Rattle.resolve_merging_few.proofs.Settling.{remain_left, remain_all}
use Rattle.resolve_merging_few.proofs.remain.Goals as goal

pub returns-then-any : goal.returns-then-any
returns-then-any c = remain_left c.sift.ensures

pub returns : goal.returns
returns c =
    let run = take c.args.n c.args.work.now in
    let test = passes_by sought.Explicit in
    remain_all c.args.work.now c.args.n
    (any-list_any test run
    ∙ sym (any_from_yields_List test _ _ c.any.result c.any.ensures.ran (YieldsList-from_slice run c.iter.ensures.rest) (λ x b q k. search (rules, tests)))
    ∙ c.if-any.false)
