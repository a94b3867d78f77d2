-- `resolve_merging::collect_forms` meets its contract. The invariant: each group has the forms of its effects so far.
-- Assumes nothing.
use native.Mathlib.Omega.{arith}
use Rattle.resolve_merging.proofs.IndexLaws.{collecting_start, collecting_ready, collecting_next}
use Rattle.resolve_merging.proofs.collect_forms.Goals as goal

pub loop-i-init : goal.loop-i-init
loop-i-init c = collecting_start c.requires.2

pub collect_form-requires : goal.collect_form-requires
collect_form-requires c =
    let p = c.requires in
    let r = collecting_ready (omega (arith, c.fits-work)) p.0 p.1 c.loop-i-test.true p.2 c.loop-i.invariant in
    (r.0, r.2, r.3, r.4)

pub loop-i-preserved : goal.loop-i-preserved
loop-i-preserved c =
    let p = c.requires in
    collecting_next (omega (arith, c.fits-work)) p.0 p.1 c.loop-i-test.true p.2 c.loop-i.invariant c.collect_form.ensures
