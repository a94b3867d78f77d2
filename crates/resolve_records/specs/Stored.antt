-- Resolve as a call whose work leaves its records packed: what its work says, what it answers, and what it leaves in each buffer, of a text, a block,
-- the lists, the ground text, the effects, the notes and the working buffer that are lent, and a limit.
use Rattle.std.specs.Prelude.{ℕ, List, map, ◌≡◌, length}
use Rattle.reading.specs.Answer.{Answer}
use Rattle.resolving.specs.Resolve.{Resolved, ground_text}
use Rattle.resolving.specs.Call.{resolving_call, lengths_of, output_of, work_after, note_numbers}
use Rattle.resolve_settling.specs.Answers.{Packed, rooms}
use Rattle.record_laws.specs.Call.{Of, Says}
use Rattle.resolve_records.specs.declared.Effect.{Effect}
use Rattle.resolve_records.specs.Records.{record_of}
use Rattle.resolve_records.specs.Words.{resolved_word}

-- Resolve's answer for a text a, a block b, the lists c, and outputs of these lengths
abbrev pub answered : List ℕ → List ℕ → List ℕ → List ℕ → ℕ → List (List ℕ) → List ℕ → ℕ → Answer Resolved
answered a b c o room n w limit = resolving_call limit b c a (rooms o room n) (length w)

-- what a call gives that is handed all this
abbrev pub Gives : Type 0 → Type 0
Gives = Of ℕ ℕ ℕ ℕ Effect (List ℕ)

abbrev pub work_says : Says ℕ ℕ ℕ ℕ (List ℕ)
work_says a b c o room n w limit r o' n' w' =
    (r ≡ resolved_word (lengths_of (answered a b c o room n w limit))) × Packed (answered a b c o room n w limit) o n w o' n' w'

abbrev pub answer_of : Gives ℕ
answer_of a b c o xs n w limit = resolved_word (lengths_of (answered a b c o (length xs) n w limit))

abbrev pub ground_of : Gives (List ℕ)
ground_of a b c o xs n w limit = output_of ground_text (answered a b c o (length xs) n w limit) o

abbrev pub effects_of : Gives (List Effect)
effects_of a b c o xs n w limit = output_of (λ x. map record_of x.effects) (answered a b c o (length xs) n w limit) xs

abbrev pub notes_of : Gives (List (List ℕ))
notes_of a b c o xs n w limit = output_of (λ x. map note_numbers x.notes) (answered a b c o (length xs) n w limit) n

abbrev pub work_of : Gives (List ℕ)
work_of a b c o xs n w limit = work_after w
