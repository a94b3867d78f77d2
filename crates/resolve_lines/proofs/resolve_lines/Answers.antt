-- `resolve_lines::resolve_lines` meets its contract: what Resolve tells and leaves in its outputs, as the lines that were asked for.
-- Assumes nothing.
use Prim.Native.Nat.{◌≤◌}
use lib.Seq.{length-take-le}
use mathlib.Core.Path.{refl, ◌∙◌, ap, sym}
use lib.ListN.{length}
use Rattle.reading.specs.Answer.{Answer}
use Rattle.resolving.specs.Resolve as definition
use Rattle.resolving.specs.Call.{Lengths, resolving_call}
use Rattle.resolve_settling.specs.Answers.{resolved_as, lent}
use Rattle.resolve_lines.proofs.Accepted.{Left, left_bounded, left-there, left-written, refused-written}
use Rattle.resolve_lines.proofs.resolve_lines.Goals.{After-resolve_under, In-Ok}
use Rattle.resolve_lines.proofs.resolve_lines.Goals as goal

-- the call's answer
abbrev answer : After-resolve_under → Answer definition.Resolved
answer u =
    let a = u.args in
    resolving_call a.limit a.block.now a.lists.now a.text.now (lent a.ground.now a.effects.now a.notes.now) (length a.work.now)

abbrev sizes : In-Ok → Lengths
sizes k = let n = k.in-Ok.n in record { ground = n.ground; effects = n.effects; notes = n.notes }

-- what it left
left :
    (k : In-Ok)
    → let a = k.args in
    Left a.limit a.block.now a.lists.now a.text.now a.ground.now a.effects.now a.notes.now
    (lent a.ground.now a.effects.now a.notes.now) (length a.work.now) (sizes k)
    k.resolve_under.new.ground k.resolve_under.new.effects k.resolve_under.new.notes
    (answer (goal.at.In-Ok k).After-resolve_under)
unfolding resolved_as
left k =
    let d = k.resolve_under.ensures in
    record {
      is = refl;
      tells = sym (ap resolved_as k.in-Ok.is) ∙ d.0;
      ground-left = d.1.0;
      effects-left = d.1.1.0;
      notes-left = d.1.1.1.0;
    }

-- each output has as much
there : (k : In-Ok) → (let n = k.in-Ok.n in let o = k.resolve_under.new in
    (n.ground ≤ length o.ground) × (n.effects ≤ length o.effects) × (n.notes ≤ length o.notes))
there k = left-there _ _ _ _ _ _ _ _ _ (sizes k) _ _ _ (answer (goal.at.In-Ok k).After-resolve_under) (left k)

pub slice_bounds-put_asked-end : goal.slice_bounds-put_asked-end
slice_bounds-put_asked-end c =
    let h = there (goal.at.slice_bounds-put_asked-end c).In-Ok in
    h.0

pub slice_bounds-put_asked-end-in-Ok : goal.slice_bounds-put_asked-end-in-Ok
slice_bounds-put_asked-end-in-Ok c =
    let h = there (goal.at.slice_bounds-put_asked-end-in-Ok c).In-Ok in
    sym (length-take-le _ _ h.0)

pub slice_bounds-put_asked-end-in-Ok-2 : goal.slice_bounds-put_asked-end-in-Ok-2
slice_bounds-put_asked-end-in-Ok-2 c =
    let h = there (goal.at.slice_bounds-put_asked-end-in-Ok-2 c).In-Ok in
    h.1

pub slice_bounds-put_asked-end-in-Ok-3 : goal.slice_bounds-put_asked-end-in-Ok-3
slice_bounds-put_asked-end-in-Ok-3 c =
    let h = there (goal.at.slice_bounds-put_asked-end-in-Ok-3 c).In-Ok in
    sym (length-take-le _ _ h.1)

pub slice_bounds-put_asked-end-in-Ok-4 : goal.slice_bounds-put_asked-end-in-Ok-4
slice_bounds-put_asked-end-in-Ok-4 c =
    let h = there (goal.at.slice_bounds-put_asked-end-in-Ok-4 c).In-Ok in
    h.2

pub slice_bounds-put_asked-end-in-Ok-5 : goal.slice_bounds-put_asked-end-in-Ok-5
slice_bounds-put_asked-end-in-Ok-5 c =
    let h = there (goal.at.slice_bounds-put_asked-end-in-Ok-5 c).In-Ok in
    sym (length-take-le _ _ h.2)

pub put_asked-count-requires : goal.put_asked-count-requires
put_asked-count-requires c =
    left_bounded _ _ _ _ _ _ _ _ _ (sizes (goal.at.put_asked-count-requires c).In-Ok) _ _ _ _ (left (goal.at.put_asked-count-requires c).In-Ok)

pub returns-in-Err : goal.returns-in-Err
unfolding resolved_as
returns-in-Err c =
    let a = c.args in
    let d = c.resolve_under.ensures in
    let e = sym (ap resolved_as c.in-Err.is) ∙ d.0 in record { written = refused-written a.asked a.block.now a.lists.now a.text.now (answer (goal.at.returns-in-Err c).After-resolve_under) e c.put_refused.ensures; leaves = (e, d.1) }

pub returns-in-Ok : goal.returns-in-Ok
unfolding resolved_as
returns-in-Ok c =
    let d = c.resolve_under.ensures in record { written = left-written _ _ _ _ _ _ _ _ _ (sizes (goal.at.returns-in-Ok c).In-Ok) _ _ _ c.args.asked (answer (goal.at.returns-in-Ok c).After-resolve_under) (left (goal.at.returns-in-Ok c).In-Ok) c.put_asked-count.ensures; leaves = (sym (ap resolved_as c.in-Ok.is) ∙ d.0, d.1) }
