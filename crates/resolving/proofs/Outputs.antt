-- Document 01, Faults: "Output past the answer's length is untouched", and all of it where the call is refused; 19, "an output shorter than its
-- answer". Evaluated on the definition, of effects and of notes.
-- Assumes nothing.
use Prim.Native.Nat.{ℕ}
use mathlib.Core.Path.{◌≡◌, refl}
use mathlib.Core.List.{List, [], ◌∷◌, map}
use Rattle.reading.specs.Answer.{Answer, accepted, refused}
use Rattle.canonical.specs.Canonical.{text_shapes}
use Rattle.resolving.specs.Resolve.{Resolved}
use Rattle.resolving.specs.Call.{Lengths, effect_numbers, note_numbers, room_for, output_of}
use Rattle.resolving.proofs.Examples.{five, note}

-- an answer with two effects and a note
abbrev answered : Resolved
answered = record { statements = []; effects = five 2 0 1 0 1 ∷ five 0 1 4 1 0 ∷ []; notes = note 0 3 ∷ [] }

abbrev effects_after : Answer Resolved → List (List ℕ) → List (List ℕ)
effects_after a before = output_of (λ r. map effect_numbers r.effects) a before

abbrev notes_after : Answer Resolved → List (List ℕ) → List (List ℕ)
notes_after a before = output_of (λ r. map note_numbers r.notes) a before

abbrev fives : List (List ℕ)
fives = (9 ∷ 9 ∷ 9 ∷ 9 ∷ 9 ∷ []) ∷ (8 ∷ 8 ∷ 8 ∷ 8 ∷ 8 ∷ []) ∷ (7 ∷ 7 ∷ 7 ∷ 7 ∷ 7 ∷ []) ∷ []

abbrev twos : List (List ℕ)
twos = (9 ∷ 9 ∷ []) ∷ (8 ∷ 8 ∷ []) ∷ []

-- "An effect is five numbers", in this order
pub five_numbers : effect_numbers (five 1 2 3 4 5) ≡ 1 ∷ 2 ∷ 3 ∷ 4 ∷ 5 ∷ []
five_numbers = refl

pub effects-behind : effects_after (accepted answered) fives ≡ (2 ∷ 0 ∷ 1 ∷ 0 ∷ 1 ∷ []) ∷ (0 ∷ 1 ∷ 4 ∷ 1 ∷ 0 ∷ []) ∷ (7 ∷ 7 ∷ 7 ∷ 7 ∷ 7 ∷ []) ∷ []
effects-behind = refl

pub notes-behind : notes_after (accepted answered) twos ≡ (0 ∷ 3 ∷ []) ∷ (8 ∷ 8 ∷ []) ∷ []
notes-behind = refl

pub effects-kept : effects_after (refused 19 0) fives ≡ fives
effects-kept = refl

pub notes-kept : notes_after (refused 19 0) twos ≡ twos
notes-kept = refl

-- outputs just as long as the answer suffice, and one effect or one note less does not
abbrev lent : ℕ → ℕ → Lengths
lent effects notes = record { ground = 0; effects = effects; notes = notes }

pub just_enough : room_for (lent 2 1) (accepted answered) ≡ accepted answered
unfolding text_shapes
just_enough = refl

pub one-effect-short : room_for (lent 1 1) (accepted answered) ≡ refused 19 0
unfolding text_shapes
one-effect-short = refl

pub one_note_short : room_for (lent 2 0) (accepted answered) ≡ refused 19 0
unfolding text_shapes
one_note_short = refl
