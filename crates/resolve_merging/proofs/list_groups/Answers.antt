-- `resolve_merging::list_groups` meets its contract. The invariant: the groups of the effects so far stand from 6,144 on.
-- Assumes nothing.
use native.Mathlib.Omega.{arith}
use mathlib.Core.Path.{◌≡◌}
use Rattle.resolve_merging.proofs.GroupLaws.{listing_full, listing_next, listing_end}
use Rattle.resolve_merging.proofs.list_groups.Goals as goal

pub returns-then-k-gt-MOST_GROUPS : goal.returns-then-k-gt-MOST_GROUPS
returns-then-k-gt-MOST_GROUPS c =
    let p = c.requires in
    listing_full (omega (arith, c.fits-work)) p.0 c.loop-i-test.true p.1 c.loop-i.invariant c.next_group-k.ensures
    c.if-k-gt-MOST_GROUPS.true

pub loop-i-preserved : goal.loop-i-preserved
loop-i-preserved c =
    let p = c.requires in
    listing_next (omega (arith, c.fits-work)) p.0 c.loop-i-test.true p.1 c.loop-i.invariant c.next_group-k.ensures
    c.if-k-gt-MOST_GROUPS.false

pub returns : goal.returns
returns c =
    let e : c.loop-i.i ≡ c.args.m = omega (arith, c.loop-i.auto.i-end, c.loop-i-test.false) in
    listing_end e c.loop-i.invariant
