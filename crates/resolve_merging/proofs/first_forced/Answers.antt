-- `resolve_merging::first_forced` meets its contract. The invariant: none of the terms so far forces a pair again, and what is found from here on is what
-- is found in all.
-- Assumes nothing.
use native.Mathlib.Omega.{arith}
use Prim.Native.Nat.{◌+◌, ◌/◌}
use mathlib.Core.Path.{◌≡◌, sym, ◌∙◌, ap}
use mathlib.Core.Bool.{Bool, cond}
use mathlib.Core.Option.{some}
use lib.ListN.{take, get_or}
use Rattle.resolve_merging.specs.Runs.{forced_in}
use Rattle.resolve_merging.proofs.ForcedLaws.{forced_from, looking_test, looking_next, looking_end}
use Rattle.resolve_merging.proofs.first_forced.Goals.{After-forced_by}
use Rattle.resolve_merging.proofs.first_forced.Goals as goal

-- the pair is forced again here, or further on
found_here : (c : After-forced_by)
    → let a = c.args in
    let w = get_or c.loop-i.work c.loop-i.i 0 in
    cond c.forced_by.result (some (w / 262144)) (forced_from a.work.now (c.loop-i.i + 1) a.n) ≡ forced_in (take a.n a.work.now)
found_here c =
    let a = c.args in
    let r = c.requires in
    ap
    (λ (t : Bool). cond t (some (get_or c.loop-i.work c.loop-i.i 0 / 262144)) (forced_from a.work.now (c.loop-i.i + 1) a.n))
    c.forced_by.ensures
    ∙ looking_test (omega (arith, c.fits-work)) r.0 c.loop-i-test.true r.1 c.loop-i.invariant c.place_of-at.ensures

pub returns-then-forced_by : goal.returns-then-forced_by
returns-then-forced_by c =
    let v = c.loop-i.invariant in
    record {
      kept = v.tallied.kept;
      terms = v.tallied.terms;
      answer = rw c.if-forced_by.true at (found_here (goal.at.returns-then-forced_by c).After-forced_by);
    }

pub loop-i-preserved : goal.loop-i-preserved
loop-i-preserved c =
    let r = c.requires in
    looking_next (omega (arith, c.fits-work)) r.0 c.loop-i-test.true r.1 c.loop-i.invariant c.place_of-at.ensures
    (sym c.forced_by.ensures ∙ c.if-forced_by.false) c.forcing_by.ensures

pub returns : goal.returns
returns c =
    let v = c.loop-i.invariant in
    record { kept = v.tallied.kept; terms = v.tallied.terms; answer = looking_end c.loop-i-test.false v }
