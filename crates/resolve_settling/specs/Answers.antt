-- What Resolve answers, and what its outputs hold afterwards, for an answer of the definition.
use Rattle.read_forms.specs.Faults.{refused_by}
use Rattle.std.specs.Prelude.{ℕ, List, map, ◌≡◌, length, take}
use Rattle.reading.specs.Answer.{Answer, accepted, refused}
use Rattle.resolving.specs.Resolve as definition
use Rattle.resolving.specs.Resolve.{ground_text}
use Rattle.resolving.specs.Call as call
use Rattle.resolving.specs.Call.{room_for, lengths_of, output_of, note_numbers, work_after}
use Rattle.resolve_merging.specs.Packing.{effect_of}
use Rattle.resolve_settling.specs.declared.Lengths.{Lengths}
use Rattle.read_forms.specs.declared.Refusal.{Refusal}
use Rattle.std.specs.Prelude as prelude

abbrev pub lengths_as : Lengths → call.Lengths
lengths_as n = record { ground = n.ground; effects = n.effects; notes = n.notes }

-- the three lengths, or why the text is refused
abbrev pub Resolved : Type 0
Resolved = prelude.Result Lengths Refusal

unfoldable pub resolved_as : Resolved → Answer call.Lengths
resolved_as (prelude.Ok n) = accepted (lengths_as n)
resolved_as (prelude.Err r) = refused_by r

-- the lengths of the outputs that are lent, where there is room for so many effects, and where they are an output too
abbrev pub rooms : List ℕ → ℕ → List (List ℕ) → call.Lengths
rooms ground effects notes = record { ground = length ground; effects = effects; notes = length notes }

abbrev pub lent : {A : Type 0} → List ℕ → List A → List (List ℕ) → call.Lengths
lent ground effects notes = rooms ground (length effects) notes

-- how many effects an answer has
abbrev pub effects_in : Answer call.Lengths → ℕ
effects_in (accepted n) = n.effects
effects_in (refused k p) = 0

-- the effects of an answer stand packed at the start of a buffer
abbrev pub PackedIn : Answer definition.Resolved → List ℕ → Type 0
PackedIn (accepted x) work = map effect_of (take (length x.effects) work) ≡ x.effects
PackedIn (refused k p) work = Unit {0}

pub record Answers (a : Answer definition.Resolved) (ground : List ℕ) (room : ℕ) (notes : List (List ℕ))
    (ground' : List ℕ) (notes' : List (List ℕ)) (work' : List ℕ) (r : Resolved) : Type 0 where
  pub told : resolved_as r ≡ lengths_of (room_for (rooms ground room notes) a)
  pub text : ground' ≡ output_of ground_text (room_for (rooms ground room notes) a) ground
  pub packed : PackedIn (room_for (rooms ground room notes) a) work'
  pub remarks : notes' ≡ output_of (λ x. map note_numbers x.notes) (room_for (rooms ground room notes) a) notes

-- what a call leaves whose effects stand packed at the start of its working buffer, from which `finish` makes what is to be left of it
pub record Packed (a : Answer definition.Resolved) (ground : List ℕ) (notes : List (List ℕ)) (work : List ℕ)
    (ground' : List ℕ) (notes' : List (List ℕ)) (work' : List ℕ) : Type 0 where
  pub text : ground' ≡ output_of ground_text a ground
  pub packed : PackedIn a work'
  pub remarks : notes' ≡ output_of (λ x. map note_numbers x.notes) a notes
  pub left : work_after work' ≡ work_after work
