-- `resolve_merging::list_forms` meets its contract: the table is cleared, has the groups' indexes, and then their effects' forms are put to them.
-- Assumes nothing.
use native.Mathlib.Omega.{arith}
use Rattle.resolve_merging.proofs.IndexLaws.{unnumbered, forms_ready, formed_all}
use Rattle.resolve_merging.proofs.list_forms.Goals as goal

pub number_groups-requires : goal.number_groups-requires
number_groups-requires c = (c.requires.1, unnumbered c.args.m c.requires.3 c.tally.ensures)

pub collect_forms-requires : goal.collect_forms-requires
collect_forms-requires c =
    let p = c.requires in
    (p.0, p.1, forms_ready (omega (arith, c.fits-work)) p.0 p.2 p.3 c.tally.ensures c.number_groups.ensures)

pub returns : goal.returns
returns c =
    let p = c.requires in
    formed_all (omega (arith, c.fits-work)) p.0 p.2 p.3 c.tally.ensures c.number_groups.ensures c.collect_forms.ensures
