-- `resolve_settling::put_made` meets its contract: the groups are written behind what stays, and all is put out once there is room for all.
-- Assumes nothing.
use Prim.Native.Nat.{ℕ, ◌≤◌}
use mathlib.Core.Path.{◌≡◌, refl, ◌∙◌, ap, ap₂, sym}
use mathlib.Core.List.{List, ◌++◌, map}
use native.Mathlib.Omega.{arith}
use lib.ListN.{length, take, drop, length-map}
use Rattle.reading.specs.Answer.{accepted}
use Rattle.print_writing.proofs.Writing.{same-room}
use Rattle.resolving.specs.Context.{Context}
use Rattle.resolving.specs.Handed.{handed_context}
use Rattle.resolving.specs.Resolve.{outcome, ground_text}
use Rattle.resolving.specs.Call.{note_numbers}
use Rattle.resolve_merging.specs.Packing.{effect_of}
use Rattle.resolve_settling.specs.Answers.{resolved_as}
use Rattle.resolve_settling.specs.Stages.{grounded}
use Rattle.resolve_settling.specs.Attempts.{EffectsGrouped, AttemptAs, Roomy}
use Rattle.resolve_settling.proofs.Answering.{refused_answers, short-ground, short-effects, short-notes, room_answers, lengths_same}
use Rattle.resolve_settling.proofs.Grounds.{many-grounded, long-grounded, fine-grounded}
use Rattle.resolve_settling.proofs.Settling.{front_stands}
use Rattle.resolve_settling.proofs.Measured.{statements-are, text-long, text-written, effects-many, notes-put, notes-many}
use Rattle.resolve_settling.proofs.put_made.Goals.{After-put_groups-end, Else-end-gt16384, Start}
use Rattle.resolve_settling.proofs.put_made.Goals as goal

abbrev context_of : Start → Context
context_of s = handed_context s.args.block.now s.args.lists.now

abbrev Given : Start → Type 0
Given s =
    EffectsGrouped (context_of s) s.args.tally s.args.dropped.now s.args.work.now s.args.listed.now s.args.count
    s.args.groups s.args.made.now

abbrev start_of : After-put_groups-end → Start
start_of p = (goal.at.After-put_groups-end p).Start

pub overflow_add-tally : goal.overflow_add-tally
overflow_add-tally c = let g = c.requires.3 in omega (arith, g.tallied.few, g.known.stand.few)

pub returns-then-tally-groups-gt256 : goal.returns-then-tally-groups-gt256
unfolding AttemptAs Roomy
returns-then-tally-groups-gt256 c = (
  (λ g.
      refused_answers c.refuse.result 18 0
      (many-grounded (context_of (goal.at.returns-then-tally-groups-gt256 c).Start) g.what (omega (arith, c.if-tally-groups-gt256.true, statements-are g)))
      c.refuse.ensures),
  tt,
)

pub put_groups-end-requires : goal.put_groups-end-requires
put_groups-end-requires c =
    let g = c.requires.3 in
    (c.requires.0, c.requires.1, c.requires.2, g.known, g.tallied.few, omega (arith, g.tallied.small))

module _ (p : After-put_groups-end) (g : Given (start_of p)) where
  few-statements : length (outcome (context_of (start_of p)) g.what).statements ≤ 256
  few-statements = omega (arith, p.if-tally-groups-gt256.false, statements-are g)

  long : length (ground_text (outcome (context_of (start_of p)) g.what)) ≡ p.put_groups-end.result
  long = text-long g p.put_groups-end.ensures

pub returns-then-end-gt16384 : goal.returns-then-end-gt16384
unfolding AttemptAs Roomy
returns-then-end-gt16384 c = (
  (λ g.
      refused_answers c.refuse-then-end-gt16384.result 18 0
      (long-grounded (context_of (start_of (goal.at.returns-then-end-gt16384 c).After-put_groups-end)) g.what (few-statements (goal.at.returns-then-end-gt16384 c).After-put_groups-end g) (omega (arith, c.if-end-gt16384.true, long (goal.at.returns-then-end-gt16384 c).After-put_groups-end g)))
      c.refuse-then-end-gt16384.ensures),
  tt,
)

pub returns-then-made-end : goal.returns-then-made-end
unfolding AttemptAs Roomy
returns-then-made-end c =
    ((λ g. (refl, refl)), omega (arith, c.if-made-end.true, c.if-end-gt16384.false, same-room c.put_groups-end.ensures))

pub additive-additive-requires : goal.additive-additive-requires
additive-additive-requires c = (start_of (goal.at.additive-additive-requires c).After-put_groups-end).requires.3.room

pub note_count-remarks-requires : goal.note_count-remarks-requires
note_count-remarks-requires c = (start_of (goal.at.note_count-remarks-requires c).After-put_groups-end).requires.3.tallied.marked

-- behind the tests of the ground space, the answer is accepted
fine : (q : Else-end-gt16384) (g : Given (start_of (goal.at.Else-end-gt16384 q).After-put_groups-end))
    → grounded (context_of (start_of (goal.at.Else-end-gt16384 q).After-put_groups-end)) g.what ≡ accepted (outcome (context_of (start_of (goal.at.Else-end-gt16384 q).After-put_groups-end)) g.what)
fine q g =
    fine-grounded (context_of (start_of (goal.at.Else-end-gt16384 q).After-put_groups-end)) g.what (few-statements (goal.at.Else-end-gt16384 q).After-put_groups-end g) (omega (arith, q.if-end-gt16384.false, long (goal.at.Else-end-gt16384 q).After-put_groups-end g))

pub returns-then-ground-end : goal.returns-then-ground-end
unfolding AttemptAs Roomy
returns-then-ground-end c = (
  (λ g.
      short-ground (outcome (context_of (start_of (goal.at.returns-then-ground-end c).After-put_groups-end)) g.what) (fine (goal.at.returns-then-ground-end c).Else-end-gt16384 g) c.refuse-then-ground-end.result c.refuse-then-ground-end.ensures
      (omega (arith, c.if-ground-end.true, long (goal.at.returns-then-ground-end c).After-put_groups-end g))),
  tt,
)

pub returns-then-room-count : goal.returns-then-room-count
unfolding AttemptAs Roomy
returns-then-room-count c = (
  (λ g.
      short-effects (outcome (context_of (start_of (goal.at.returns-then-room-count c).After-put_groups-end)) g.what) (fine (goal.at.returns-then-room-count c).Else-end-gt16384 g) c.refuse-then-room-count.result c.refuse-then-room-count.ensures
      (omega (arith, c.if-room-count.true, effects-many g))),
  tt,
)

pub returns-then-notes-remarks : goal.returns-then-notes-remarks
unfolding AttemptAs Roomy
returns-then-notes-remarks c = (
  (λ g.
      short-notes (outcome (context_of (start_of (goal.at.returns-then-notes-remarks c).After-put_groups-end)) g.what) (fine (goal.at.returns-then-notes-remarks c).Else-end-gt16384 g) c.refuse-then-notes-remarks.result c.refuse-then-notes-remarks.ensures
      (omega (arith, c.if-notes-remarks.true, c.note_count-remarks.ensures, notes-many g c.additive-additive.result c.additive-additive.ensures))),
  tt,
)

pub put_notes-requires : goal.put_notes-requires
put_notes-requires c =
    let s = start_of (goal.at.put_notes-requires c).After-put_groups-end in
    (omega (arith, c.if-notes-remarks.false, c.note_count-remarks.ensures), s.requires.3.tallied.held)

pub returns : goal.returns
unfolding AttemptAs Roomy resolved_as
returns c =
    let s = start_of (goal.at.returns c).After-put_groups-end in (
      (λ g.
          let x = outcome (context_of s) g.what in
          let whole = text-written g c.put_groups-end.ensures in
          let held : length (ground_text x) ≤ length g.before = omega (arith, c.if-end-gt16384.false, c.if-made-end.false, long (goal.at.returns c).After-put_groups-end g, same-room whole) in
          let k = effects-many g in
          let m = notes-many g c.additive-additive.result c.additive-additive.ensures in
          let o = c.note_count-remarks.ensures in
          room_answers x _ (fine (goal.at.returns c).Else-end-gt16384 g)
          (ap accepted (lengths_same (sym (long (goal.at.returns c).After-put_groups-end g)) (sym k) (o ∙ sym m)))
          (omega (arith, c.if-ground-end.false, long (goal.at.returns c).After-put_groups-end g))
          (omega (arith, k, c.if-room-count.false))
          (omega (arith, m, o, c.if-notes-remarks.false))
          (c.put_first.ensures
          ∙ ap₂ (λ (l : List ℕ) (i : ℕ). l ++ drop i s.args.ground.now) (front_stands whole held) (sym (long (goal.at.returns c).After-put_groups-end g)))
          (ap (λ (i : ℕ). map effect_of (take i s.args.work.now)) k ∙ g.effects)
          (c.put_notes.ensures
          ∙ ap₂ (λ (l : List (List ℕ)) (i : ℕ). l ++ drop i s.args.notes.now)
          (sym (notes-put g c.additive-additive.result c.additive-additive.ensures))
          (sym (length-map x.notes note_numbers ∙ m)))),
      tt,
    )
