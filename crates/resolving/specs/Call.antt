-- Document 01, The calls offered: "Resolve: a text and a context give the ground text, the covariate effects and the notes." And Faults, 19: "an
-- output shorter than its answer; a working buffer shorter than the call's stated length". "19 for it comes before every other refusal";
-- "Elsewhere 19 means an output", and comes last. "Working buffers are zero after every call that found them long enough. Output past the
-- answer's length is untouched."
use Rattle.std.specs.Prelude.{ℕ, Bool, cond, ◌||◌, List, [], ◌∷◌, ◌++◌, map, ◌≡◌, ltb, length, drop, replicate}
use Rattle.reading.specs.Answer.{Answer, accepted, refused, refused_if}
use Rattle.resolving.specs.Faults.{too_short}
use Rattle.resolving.specs.Effects.{Effect}
use Rattle.resolving.specs.Resolve.{Note, Resolved, ground_text}
use Rattle.resolving.specs.Handed.{resolve_handed}

-- How many elements the working buffer has to have: as many as there are effects at most, before merging.
abbrev pub working_length : ℕ
working_length = 2048

-- "An effect is five numbers", and a note two.
abbrev pub effect_numbers : Effect → List ℕ
effect_numbers e = e.parameter ∷ e.covariate ∷ e.form ∷ e.operator ∷ e.optional ∷ []

abbrev pub note_numbers : Note → List ℕ
note_numbers n = n.reason ∷ n.index ∷ []

-- Lengths: of the outputs that are lent, and of an answer.
pub record Lengths : Type 0 where
  pub ground : ℕ
  pub effects : ℕ
  pub notes : ℕ

abbrev pub lengths_in : Resolved → Lengths
lengths_in r = record { ground = length (ground_text r); effects = length r.effects; notes = length r.notes }

-- one of the answer's is longer than what is lent
abbrev pub exceeds : Lengths → Lengths → Bool
exceeds lent own = ltb lent.ground own.ground || (ltb lent.effects own.effects || ltb lent.notes own.notes)

abbrev pub room_for : Lengths → Answer Resolved → Answer Resolved
room_for lent (accepted r) = refused_if (exceeds lent (lengths_in r)) too_short 0 (accepted r)
room_for lent (refused n p) = refused n p

-- The call's answer for outputs and a working buffer of these lengths.
unfoldable pub resolving_call : ℕ → List ℕ → List ℕ → List ℕ → Lengths → ℕ → Answer Resolved
resolving_call limit block numbers text lent work =
    refused_if (ltb work working_length) too_short 0 (room_for lent (resolve_handed limit block numbers text))

abbrev pub lengths_of : Answer Resolved → Answer Lengths
lengths_of (accepted r) = accepted (lengths_in r)
lengths_of (refused n p) = refused n p

-- An output afterwards: an answer's part at its start, and the rest untouched, as all of it is when refusing.
abbrev pub output_of : {A : Type 0} → (Resolved → List A) → Answer Resolved → List A → List A
output_of part (accepted r) before = part r ++ drop (length (part r)) before
output_of part (refused n p) before = before

-- The working buffer afterwards.
abbrev pub work_after : List ℕ → List ℕ
work_after before = cond (ltb (length before) working_length) before (replicate (length before) 0)

-- All that the call says and leaves, for an answer: what it tells of it, the three outputs, whatever form its effects have there, and the working
-- buffer.
abbrev pub Leaves :
    {W E : Type 0} → Answer Resolved → (Answer Lengths → W) → W → (Effect → E)
    → List ℕ → List ℕ → List E → List E → List (List ℕ) → List (List ℕ) → List ℕ → List ℕ → Type 0
Leaves a tell r form ground ground' effects effects' notes notes' work work' =
    (r ≡ tell (lengths_of a))
    × ((ground' ≡ output_of ground_text a ground)
    × ((effects' ≡ output_of (λ x. map form x.effects) a effects)
    × ((notes' ≡ output_of (λ x. map note_numbers x.notes) a notes)
    × (work' ≡ work_after work))))
