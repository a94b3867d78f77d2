-- `read_lists::counts_of` meets its contract. The invariant: so many entries were read, and their counts stand in the array. Assumes nothing.
use mathlib.Core.Path.{sym}
use native.Mathlib.Omega.{arith}
use Rattle.read_forms.specs.Forms.{count_for}
use Rattle.read_lists.proofs.Filling.{next-stands, one_more, none_gone, all_gone}
use Rattle.read_lists.proofs.counts_of.Goals as goal

pub no_counts-counts-requires : goal.no_counts-counts-requires
no_counts-counts-requires c = tt

pub loop-n-init : goal.loop-n-init
loop-n-init c = none_gone count_for _ _ _ c.no_counts-counts.ensures

pub entry_at-entry-requires : goal.entry_at-entry-requires
entry_at-entry-requires c =
    let p = c.requires in
    (p.0, next-stands _ _ c.loop-n.n c.loop-n.cur.at p.1 c.loop-n.invariant.come c.loop-n-test.true)

pub count_or_0-requires : goal.count_or_0-requires
count_or_0-requires c = c.entry_at-entry.ensures.inside

pub offset_bounds-counts-n : goal.offset_bounds-counts-n
offset_bounds-counts-n c =
    omega (arith, c.requires.1.few, c.loop-n-test.true)

pub bounds-counts-n : goal.bounds-counts-n
bounds-counts-n c =
    omega (arith, c.loop-n.invariant.size, c.requires.1.few, c.loop-n-test.true)

pub loop-n-preserved : goal.loop-n-preserved
loop-n-preserved c =
    let a = c.args in
    rw c.after_entry-cur.ensures
    (one_more count_for a.text.now a.items _ c.loop-n.n c.loop-n.cur.at c.entry_at-entry.result c.count_or_0.result c.requires.1
    c.loop-n.invariant c.loop-n-test.true c.entry_at-entry.ensures
    (sym c.count_or_0.ensures))

pub returns : goal.returns
returns c =
    all_gone count_for _ _ _ c.loop-n.n c.loop-n.cur.at c.requires.1 c.loop-n.invariant c.loop-n-test.false
