-- `read_lists::items_of` meets its contract. The invariant: so many entries were read, and they stand in the array. Assumes nothing.
use native.Mathlib.Omega.{arith}
use Rattle.read_lists.specs.Lists.{item_for}
use Rattle.read_lists.proofs.Filling.{next-stands, one_more, none_gone, all_gone, own-item}
use Rattle.read_lists.proofs.items_of.Goals as goal

pub no_items-all-requires : goal.no_items-all-requires
no_items-all-requires c = tt

pub loop-i-init : goal.loop-i-init
loop-i-init c = none_gone item_for _ _ _ c.no_items-all.ensures

pub entry_at-entry-requires : goal.entry_at-entry-requires
entry_at-entry-requires c =
    let p = c.requires in
    (p.0, next-stands _ _ c.loop-i.i c.loop-i.cur.at p.1 c.loop-i.invariant.come c.loop-i-test.true)

pub offset_bounds-all-i : goal.offset_bounds-all-i
offset_bounds-all-i c =
    omega (arith, c.requires.1.few, c.loop-i-test.true)

pub bounds-all-i : goal.bounds-all-i
bounds-all-i c =
    omega (arith, c.loop-i.invariant.size, c.requires.1.few, c.loop-i-test.true)

pub loop-i-preserved : goal.loop-i-preserved
loop-i-preserved c =
    let a = c.args in
    rw c.after_entry-cur.ensures
    (one_more item_for a.text.now a.items _ c.loop-i.i c.loop-i.cur.at c.entry_at-entry.result (record { kind = c.entry_at-entry.result.kind; name = c.entry_at-entry.result.name }) c.requires.1
    c.loop-i.invariant c.loop-i-test.true c.entry_at-entry.ensures
    (own-item a.text.now c.entry_at-entry.result c.entry_at-entry.ensures.inside))

pub returns : goal.returns
returns c =
    all_gone item_for _ _ _ c.loop-i.i c.loop-i.cur.at c.requires.1 c.loop-i.invariant c.loop-i-test.false
