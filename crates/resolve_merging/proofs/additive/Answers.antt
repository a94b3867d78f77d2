-- `resolve_merging::additive` meets its contract.
-- Assumes nothing.
use Rattle.std.proofs.Common.{◌/◌, ◌%◌, eqb, sym, ◌∙◌, take, rules, tests}
use Rattle.std.proofs.lemmas.Iterator.{YieldsList-from_slice}
use Rattle.std.proofs.lemmas.Iterator.Search.{any_from_yields_List}
use Rattle.resolve_merging.specs.Packing.{effect_of}
use Rattle.resolve_merging.proofs.Mapped.{any-map}
use Rattle.resolve_merging.proofs.Scans.{any-list_any}
use Rattle.resolve_merging.proofs.additive.Goals as goal

pub returns : goal.returns
returns c =
    let run = take c.args.m c.args.work.now in
    any_from_yields_List (λ w. eqb (w / 2 % 2) 1) _ _ c.any.result c.any.ensures.ran (YieldsList-from_slice run c.iter.ensures.rest) (λ x b q k. search (rules, tests))
    ∙ sym (any-map effect_of (λ e. eqb e.operator 1) run ∙ any-list_any (λ w. eqb (w / 2 % 2) 1) run)
