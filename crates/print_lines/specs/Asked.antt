-- What is asked for, of what Resolve left in its outputs.
use Rattle.std.specs.Prelude.{ℕ, ◌≤◌, true, List, ◌++◌, map, ◌≡◌, length}
use Rattle.text.specs.Bytes.{bytes}
use Rattle.resolving.specs.Handed.{is_handed, handed_context}
use Rattle.lines.specs.Effects.{effect_lines}
use Rattle.lines.specs.Notes.{note_lines}
use Rattle.lines.specs.Ground as lines
use Rattle.lines.specs.Ground.{for_ground, for_effects, for_notes}
use Rattle.print_lines.specs.declared.Asked.{Asked}
use Rattle.print_lines.specs.declared.Asked.TheVariants.{Ground, Effects, Notes}
use Rattle.print_lines.specs.Given.{effect_in, note_in}

abbrev pub asked_as : Asked → lines.Asked
asked_as Ground = for_ground
asked_as Effects = for_effects
asked_as Notes = for_notes

-- a context, and no more than a text can come to
pub record Bounded (text block numbers ground : List ℕ) (effects notes : List (List ℕ)) : Type 0 where
  pub handed : is_handed block numbers ≡ true
  pub short : length text ≤ 16384
  pub ground-few : length ground ≤ 16384
  pub effects-few : length effects ≤ 2048
  pub notes-few : length notes ≤ 257

unfoldable pub lines_in : Asked → List ℕ → List ℕ → List ℕ → List ℕ → List (List ℕ) → List (List ℕ) → List ℕ
lines_in Ground text block numbers ground effects notes = ground ++ bytes "\n"
lines_in Effects text block numbers ground effects notes = effect_lines (handed_context block numbers) (map effect_in effects)
lines_in Notes text block numbers ground effects notes = note_lines text (map note_in notes)
