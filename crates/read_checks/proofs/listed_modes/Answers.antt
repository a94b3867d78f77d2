-- `read_checks::listed_modes` meets its contract. The invariant: the modes that were read stand in the number, and what is left decides the rest.
-- Assumes nothing.
use mathlib.Core.Path.{◌≡◌, ◌∙◌, sym}
use mathlib.Core.Option.{some}
use Prim.Native.Nat.{◌+◌, ◌-◌}
use native.Mathlib.Nat.{sub-zero}
use native.Mathlib.Omega.{arith}
use Rattle.labels.specs.Word.{find}
use Rattle.labels.specs.Label.{labels_of}
use Rattle.read_forms.specs.Items.{name_in}
use Rattle.read_forms.specs.Forms.{modes_in}
use Rattle.read_forms.proofs.Entries.{first-listed}
use Rattle.read_forms.proofs.Lists.{items_are}
use Rattle.read_checks.proofs.Judging.{found_some, found_none}
use Rattle.read_checks.proofs.Modes.{sofar_start, sofar_few, sofar_none, sofar-refused, sofar-next, found-small}
use Rattle.read_checks.proofs.listed_modes.Goals.{In-Some}
use Rattle.read_checks.proofs.listed_modes.Goals as goal

pub loop-done-init : goal.loop-done-init
loop-done-init c = rw sub-zero (sofar_start _ _ _ _ c.requires.2.are)

pub entry_at-entry-requires : goal.entry_at-entry-requires
entry_at-entry-requires c = (c.requires.0, first-listed 1 _ _ c.loop-done.invariant.entered (omega arith))

pub mode_at-requires : goal.mode_at-requires
mode_at-requires c = (c.requires.1, c.entry_at-entry.ensures.inside)

pub returns-in_default : goal.returns-in_default
returns-in_default c =
    rw (items_are _ _ c.requires.2)
    (sofar-refused c.loop-done.invariant (omega arith) c.entry_at-entry.ensures
    (found_none _ (sym c.in_default.is ∙ c.mode_at.ensures)))

-- the entry is a mode
found :
    (c : In-Some)
    → (let a = c.args in
    find (name_in a.text.now c.entry_at-entry.result.name).spelling (labels_of a.family) ≡ some c.in-Some.place)
found c =
    found_some (find _ _) _ (sym c.in-Some.is ∙ c.mode_at.ensures)

pub overflow_cast-place : goal.overflow_cast-place
overflow_cast-place c = record { fits = omega (arith, found-small _ _ _ (found (goal.at.overflow_cast-place c).In-Some)) }

pub with_place-packed-requires : goal.with_place-packed-requires
with_place-packed-requires c =
    (c.loop-done.invariant.snug, sofar_few c.loop-done.invariant, omega (arith, found-small _ _ _ (found (goal.at.with_place-packed-requires c).In-Some)))

pub loop-done-preserved : goal.loop-done-preserved
loop-done-preserved c =
    let less : c.args.items.count - (c.loop-done._done + 1) ≡ c.args.items.count - c.loop-done._done - 1 = omega arith in
    rw (less, c.after_entry-cur.ensures)
    (sofar-next c.loop-done.invariant (omega arith) c.entry_at-entry.ensures _ c.with_place-packed.result
    (found (goal.at.loop-done-preserved c).In-Some) c.with_place-packed.ensures)

pub returns : goal.returns
unfolding modes_in
returns c = rw (items_are _ _ c.requires.2) (sofar_none c.loop-done.invariant (omega arith))
