-- `resolve_merging_few::unite_all` meets its contract. The invariant: the effects so far without repeats are the first, and their groups stand in a run
-- of their own, each with its forms.
-- Assumes nothing.
use native.Mathlib.Omega.{arith}
use Rattle.resolve_merging_few.proofs.Uniting.{uniting_next, uniting_end, groups-few}
use Rattle.resolve_merging_few.proofs.unite_all.Goals as goal

pub loop-i-preserved : goal.loop-i-preserved
loop-i-preserved c =
    let p = c.requires in
    uniting_next (omega (arith, p.0, c.loop-i-test.true)) (omega (arith, p.1, c.loop-i-test.true))
    (omega (arith, p.0, p.2, groups-few c.loop-i.invariant, c.loop-i-test.true, c.loop-i.auto.listed)) c.loop-i.invariant c.unite_one-united.ensures

pub returns : goal.returns
returns c =
    let p = c.requires in
    uniting_end p.0 p.1 (omega (arith, c.loop-i.auto.i-end, c.loop-i-test.false)) c.loop-i.invariant
