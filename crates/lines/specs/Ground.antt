-- docs/CALLS.md, The program `ground`: "It writes the ground text and a newline .., or `refused`, number and place and a newline. With a word before
-- CONTEXT it writes lines instead", of its effects or of its notes.
use Rattle.std.specs.Prelude.{ℕ, List, ◌++◌}
use Rattle.text.specs.Bytes.{bytes}
use Rattle.reading.specs.Answer.{Answer, accepted, refused}
use Rattle.resolving.specs.Context.{Context}
use Rattle.resolving.specs.Resolve.{Resolved, ground_text}
use Rattle.lines.specs.Line.{refusal_line, line_of}
use Rattle.lines.specs.Effects.{effect_lines}
use Rattle.lines.specs.Notes.{note_lines}

-- What is asked for.
pub data Asked : Type 0 where
  for_ground for_effects for_notes : Asked

-- what is written of a text that resolves, in its context
unfoldable pub resolved_lines : Asked → Context → List ℕ → Resolved → List ℕ
resolved_lines for_ground c text r = ground_text r ++ bytes "\n"
resolved_lines for_effects c text r = effect_lines c r.effects
resolved_lines for_notes c text r = note_lines text r.notes

-- What `ground` writes of Resolve's answer about a text in a context.
unfoldable pub ground_lines : Asked → Context → List ℕ → Answer Resolved → List ℕ
ground_lines q c text (accepted r) = resolved_lines q c text r
ground_lines q c text (refused n p) = refusal_line n p
