-- What the answers of the profile's functions mean, as answers of its definition.
use Rattle.std.specs.Prelude.{Result, ℕ, ◌<◌, Bool, false, List}
use Rattle.reading.specs.Answer.{Answer, accepted, refused}
use Rattle.profiling.specs.Profile as profile
use Rattle.profiling.specs.Profile.{Yes, high_counts, outside, plain, once}
use Rattle.read_forms.specs.Forms.{counts_in}
use Rattle.read_parts.specs.declared.Part.{Part}
use Rattle.read_parts.specs.declared.Part.TheVariants.{Absent, Modes, Counts, N, Operand, Name, Values, Op, Omitted}
use Rattle.read_profile.specs.declared.Mark.{Mark}
use Rattle.read_profile.specs.declared.Mark.TheVariants.{Outside, Plain, Once}
use Rattle.read_forms.specs.declared.Refusal.{Refusal}
use Rattle.read_forms.specs.Faults.{answered}

-- an argument with a count above 10
abbrev pub high_part : List ℕ → Part → Bool
high_part s Absent = false
high_part s (Modes f m) = false
high_part s (Counts c) = high_counts (counts_in s c)
high_part s N = false
high_part s (Operand p) = false
high_part s (Name n) = false
high_part s (Values is) = false
high_part s (Op op) = false
high_part s Omitted = false

unfoldable pub mark_as : Mark → profile.Mark
mark_as Outside = outside
mark_as Plain = plain
mark_as (Once k h) = once k h

-- it is one of the five
unfoldable pub Numbered : Mark → Type 0
Numbered Outside = Unit {0}
Numbered Plain = Unit {0}
Numbered (Once k h) = k < 5

-- What the call answers, for every text: its contract says that its answer means `profile_text limit text`.
unfoldable pub profiled_as : Result Unit Refusal → Answer Yes
profiled_as r = answered (λ (_ : Unit). tt) r

-- yes, as a number
abbrev pub yes_as_zero : Answer Yes → Answer ℕ
yes_as_zero (accepted y) = accepted 0
yes_as_zero (refused k p) = refused k p
