-- `read_profile::first_fault` meets its contract. The invariant: the flags say which of the five were seen, and what is said of the statements that
-- are left is said of all; each turn passes one.
-- Assumes nothing.
use Prim.Native.Nat.{◌≤◌, ◌<◌}
use native.Mathlib.Omega.{arith}
use mathlib.Core.Path.{◌∙◌, ap, subst}
use lib.ListN.{length}
use Rattle.profiling.specs.Profile.{profile_of}
use Rattle.read_profile.specs.Answers.{mark_as, Numbered, profiled_as}
use Rattle.read_profile.proofs.Judging.{none_judged, all_judged, outside-refused, plain-passed, second-refused, high-refused, once-passed, form-fits}
use Rattle.read_profile.proofs.first_fault.Goals.{In-Once, In-loop-i, Start, in-Plain, in-Once+else-seen-feature+else-high}
use Rattle.read_profile.proofs.first_fault.Goals as goal

-- the array has room for all statements, and there are at most 256
all_held : (s : Start) → s.args.space.count ≤ length s.args.space.forms
all_held s = omega (arith, s.requires.1.few, s.requires.1.wide)

index_below : (t : In-loop-i) → t.loop-i.i < 256
index_below t = omega (arith, t.loop-i-test.true, t.requires.1.few)

-- which of the five it is
below : (f : In-Once) → f.in-Once.feature < 5
unfolding Numbered
below f = subst Numbered f.in-Once.is f.mark_of.ensures.1

pub loop-i-init : goal.loop-i-init
loop-i-init c = none_judged _ _ _

pub offset_bounds-space-i : goal.offset_bounds-space-i
offset_bounds-space-i c = omega (arith, index_below (goal.at.offset_bounds-space-i c).In-loop-i)

pub bounds-space-i : goal.bounds-space-i
bounds-space-i c = index_below (goal.at.bounds-space-i c).In-loop-i

pub mark_of-requires : goal.mark_of-requires
mark_of-requires c =
    (c.requires.0, form-fits _ _ (c.requires.2 _ c.loop-i.i c.loop-i-test.true))

pub returns-in-Outside : goal.returns-in-Outside
unfolding mark_as profiled_as profile_of
returns-in-Outside c =
    ap profiled_as c.refused.ensures
    ∙ outside-refused c.loop-i.invariant _ c.loop-i-test.true (all_held (goal.at.returns-in-Outside c).Start) (mark_as c.mark_of.result) c.mark_of.ensures.0
    (ap mark_as c.in-Outside.is)

pub bounds-seen-feature : goal.bounds-seen-feature
bounds-seen-feature c = below (goal.at.bounds-seen-feature c).In-Once

pub returns-then-seen-feature : goal.returns-then-seen-feature
unfolding mark_as profiled_as profile_of
returns-then-seen-feature c =
    ap profiled_as c.refused-then-seen-feature.ensures
    ∙ second-refused c.loop-i.invariant _ c.loop-i-test.true (all_held (goal.at.returns-then-seen-feature c).Start) (mark_as c.mark_of.result) c.mark_of.ensures.0
    c.in-Once.feature c.in-Once.high (below (goal.at.returns-then-seen-feature c).In-Once) (ap mark_as c.in-Once.is) c.if-seen-feature.true

pub returns-then-high : goal.returns-then-high
unfolding mark_as profiled_as profile_of
returns-then-high c =
    ap profiled_as c.refused-then-high.ensures
    ∙ high-refused c.loop-i.invariant _ c.loop-i-test.true (all_held (goal.at.returns-then-high c).Start) (mark_as c.mark_of.result) c.mark_of.ensures.0
    c.in-Once.feature c.in-Once.high (below (goal.at.returns-then-high c).In-Once) (ap mark_as c.in-Once.is) c.if-seen-feature.false c.if-high.true

pub bounds-seen-feature-in-Once : goal.bounds-seen-feature-in-Once
bounds-seen-feature-in-Once c = below (goal.at.bounds-seen-feature-in-Once c).In-Once

pub loop-i-preserved : goal.loop-i-preserved
unfolding mark_as Numbered
loop-i-preserved c =
    let g = c.loop-i.invariant in
    let h = all_held (goal.at.loop-i-preserved c).Start in
    let m = mark_as c.mark_of.result in
    let e = c.mark_of.ensures in
    elim c.match-mark_of.branch [
      | in-Plain w ↦ rw w.seen-is (plain-passed g _ c.loop-i-test.true h m e.0 (ap mark_as w.in-Plain.is))
      | in-Once+else-seen-feature+else-high w ↦
          rw w.seen-is
          (once-passed g _ c.loop-i-test.true h m e.0 w.in-Once.feature w.in-Once.high (subst Numbered w.in-Once.is e.1)
          (ap mark_as w.in-Once.is) w.if-seen-feature.false w.if-high.false)
    ]

pub returns : goal.returns
unfolding profiled_as profile_of
returns c = all_judged c.loop-i.invariant (omega (arith, c.loop-i-test.false))
