-- `resolve_groups::put_groups` meets its contract. The invariant: what is left to be written are the statements of the groups that are left.
-- Assumes nothing.
use Prim.Native.Nat.{ℕ, ◌+◌, ◌*◌, ◌<◌}
use mathlib.Core.Path.{◌≡◌, ap}
use mathlib.Core.List.{List, ◌++◌, map}
use native.Mathlib.Omega.{arith}
use lib.ListN.{length, take}
use Rattle.canonical.specs.Lines.{joint_of, rest_of}
use Rattle.resolving.specs.Context.{Context}
use Rattle.resolving.specs.Effects.{Effect}
use Rattle.resolving.specs.Ground.{ground_effects}
use Rattle.resolving.specs.Handed.{handed_context}
use Rattle.print_writing.specs.Written.{Room}
use Rattle.print_writing.proofs.Going.{going, told, further, no_more, room-first}
use Rattle.resolve_merging.specs.Packing.{effect_of}
use Rattle.resolve_groups.proofs.Groups.{left_from, group_bytes, group-next, none-next, group-entered, groups-room, parameters-many, covariates-many, parameters-short, covariates-short}
use Rattle.resolve_groups.proofs.put_groups.Goals.{In-loop-j, Start}
use Rattle.resolve_groups.proofs.put_groups.Goals as goal

-- the context that the names are of, and the effects whose groups are printed
abbrev context_of : Start → Context
context_of s = handed_context s.args.block.now s.args.lists.now

abbrev effects_of : Start → List Effect
effects_of s = map effect_of (take s.args.count s.args.work.now)

pub loop-j-init : goal.loop-j-init
loop-j-init c =
    told (ap (λ (n : ℕ). left_from (context_of (goal.at.loop-j-init c).Start) (effects_of (goal.at.loop-j-init c).Start) n 0) (omega arith)) (going _ _ _)

-- there are at most 256 groups
index_below : (t : In-loop-j) → t.loop-j.j < 256
index_below t =
    omega (arith, t.loop-j-test.true, t.requires.3.stand.few)

-- the statement of the group, and what is left behind it
group-ahead :
    (t : In-loop-j)
    → left_from (context_of (goal.at.In-loop-j t).Start) (effects_of (goal.at.In-loop-j t).Start) (t.args.before + t.loop-j.j) t.loop-j.j
    ≡ joint_of (t.args.before + t.loop-j.j)
    ++ (group_bytes (context_of (goal.at.In-loop-j t).Start) t.args.listed.now t.loop-j.j
    ++ left_from (context_of (goal.at.In-loop-j t).Start) (effects_of (goal.at.In-loop-j t).Start) (t.args.before + (t.loop-j.j + 1)) (t.loop-j.j + 1))
group-ahead t =
    group-next (context_of (goal.at.In-loop-j t).Start) t.args.work.now t.args.listed.now t.args.count t.args.groups t.requires.3 t.args.before
    t.loop-j.j t.loop-j-test.true

room_for-all : (s : Start) → Room s.args.at (rest_of s.args.before (ground_effects (context_of s) (effects_of s)))
room_for-all s =
    groups-room (context_of s) s.args.work.now s.args.listed.now s.args.count s.args.groups s.requires.3
    (parameters-short s.args.block.now s.args.lists.now s.args.layout s.requires.2)
    (covariates-short s.args.block.now s.args.lists.now s.args.layout s.requires.2)
    s.args.before s.args.at s.requires.5

-- its two numbers are listed
index-room : (t : In-loop-j) → 2 * t.loop-j.j + 1 < length t.args.listed.now
index-room t = omega (arith, t.loop-j-test.true, t.requires.3.room)

pub overflow_add-before : goal.overflow_add-before
overflow_add-before c =
    omega (arith, index_below (goal.at.overflow_add-before c).In-loop-j, c.requires.4)

pub put_joint-next-requires : goal.put_joint-next-requires
put_joint-next-requires c =
    room-first (joint_of (c.args.before + c.loop-j.j)) _ (room_for-all (goal.at.put_joint-next-requires c).Start) (told (group-ahead (goal.at.put_joint-next-requires c).In-loop-j) c.loop-j.invariant)

pub put_group-next-requires : goal.put_group-next-requires
put_group-next-requires c =
    let e =
    group-entered (context_of (goal.at.put_group-next-requires c).Start) c.args.work.now c.args.listed.now c.args.count c.args.groups c.requires.3 c.loop-j.j
    c.loop-j-test.true in (
      c.requires.0,
      c.requires.1,
      c.requires.2,
      omega (arith, e.0, parameters-many c.args.block.now c.args.lists.now c.args.layout c.requires.2),
      omega (arith, e.1, covariates-many c.args.block.now c.args.lists.now c.args.layout c.requires.2),
      room-first (group_bytes (context_of (goal.at.put_group-next-requires c).Start) c.args.listed.now c.loop-j.j) _ (room_for-all (goal.at.put_group-next-requires c).Start)
          (further (told (group-ahead (goal.at.put_group-next-requires c).In-loop-j) c.loop-j.invariant) c.put_joint-next.ensures),
    )

pub loop-j-preserved : goal.loop-j-preserved
loop-j-preserved c =
    let j = told (group-ahead (goal.at.loop-j-preserved c).In-loop-j) c.loop-j.invariant in
    further (further j c.put_joint-next.ensures) c.put_group-next.ensures

pub returns : goal.returns
returns c =
    no_more
    (told
    (none-next (context_of (goal.at.returns c).Start) c.args.work.now c.args.listed.now c.args.count c.args.groups c.requires.3 (c.args.before + c.loop-j.j) c.loop-j.j
    (omega (arith, c.loop-j-test.false)))
    c.loop-j.invariant)

pub bounds-listed-j : goal.bounds-listed-j
bounds-listed-j c = omega (arith, index-room (goal.at.bounds-listed-j c).In-loop-j)

pub bounds-listed-j-in-loop-j : goal.bounds-listed-j-in-loop-j
bounds-listed-j-in-loop-j c = index-room (goal.at.bounds-listed-j-in-loop-j c).In-loop-j
