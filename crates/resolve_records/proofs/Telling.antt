-- The number of effects can be told from the word of an answer: it is that of the answer, and 0 of a refusal.
-- Assumes nothing.
use native.Mathlib.Omega.{arith}
use mathlib.Core.Path.{◌≡◌}
use Rattle.reading.specs.Answer.{Answer, accepted, refused}
use Rattle.resolving.specs.Call.{Lengths}
use Rattle.resolve_settling.specs.Answers.{effects_in}
use Rattle.resolve_records.specs.Words.{resolved_word, effects_told, Small}

pub told-effects : (a : Answer Lengths) → Small a → effects_told (resolved_word a) ≡ effects_in a
told-effects (accepted n) h = omega (arith, h.0, h.1.0)
told-effects (refused k p) h = omega (arith, h)
