-- Effects, notes and stretches as code has them, as values of the definitions.
use Rattle.std.specs.Prelude.{ℕ, ◌+◌, cond, List, [], ◌∷◌, eqb, drop, get_or}
use Rattle.tokens.specs.declared.Token.{Token}
use Rattle.tokens.specs.Lex.{tokens_at}
use Rattle.resolving.specs.Effects.{Effect}
use Rattle.resolving.specs.Resolve.{Note}
use Rattle.lines.specs.Stretches as lines
use Rattle.lines.specs.Stretches.{stretch, before, within, stretches_from}
use Rattle.print_lines.specs.declared.Stretch.{Stretch}

-- "An effect is five numbers", and a note two
abbrev pub effect_in : List ℕ → Effect
effect_in l =
    record { parameter = get_or l 0 0; covariate = get_or l 1 0; form = get_or l 2 0; operator = get_or l 3 0; optional = get_or l 4 0 }

abbrev pub note_of : ℕ → ℕ → Note
note_of r i = record { reason = r; index = i }

abbrev pub note_in : List ℕ → Note
note_in l = note_of (get_or l 0 0) (get_or l 1 0)

abbrev pub stretch_as : Stretch → lines.Stretch
stretch_as s = stretch s.start s.end

-- the stretches of a text from an offset on: before a statement, and in one that starts at another
unfoldable pub stretches_before : List ℕ → ℕ → List lines.Stretch
stretches_before s o = stretches_from before (tokens_at o (drop o s))

unfoldable pub stretches_in : List ℕ → ℕ → ℕ → List lines.Stretch
stretches_in s a o = stretches_from (within a) (tokens_at o (drop o s))

-- what is left of them at the `)` of a statement that starts at an offset, or at what ends the text before there is one
unfoldable pub ended_by : List ℕ → ℕ → Token → List lines.Stretch
ended_by s a t = cond (eqb t.kind 41) (stretch a (t.start + 1) ∷ stretches_before s t.next.at) []
