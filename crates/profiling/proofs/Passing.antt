-- Statements that pass have passed each of the three tests.
-- Assumes nothing.
use Prim.Native.Nat.{ℕ, suc}
use mathlib.Core.Path.{◌≡◌}
use mathlib.Core.Bool.{false}
use mathlib.Core.List.{List, ◌∷◌}
use Rattle.reading.specs.Answer.{accepted}
use Rattle.reading.proofs.Answers.{passed_test}
use Rattle.profiling.specs.Profile.{Mark, is_outside, is_second, has_high, profile_from}

-- the first of statements that pass, and those behind it
pub record Passed (i : ℕ) (seen : List Mark) (m : Mark) (ms : List Mark) : Type 0 where
  pub not-outside : is_outside m ≡ false
  pub not-second : is_second seen m ≡ false
  pub not_high : has_high m ≡ false
  pub others : profile_from (suc i) (m ∷ seen) ms ≡ accepted tt

pub first-passed : (i : ℕ) (seen : List Mark) (m : Mark) (ms : List Mark) → profile_from i seen (m ∷ ms) ≡ accepted tt → Passed i seen m ms
unfolding profile_from
first-passed i seen m ms e =
    let a = passed_test (is_outside m) 22 i _ e in
    let b = passed_test (is_second seen m) 23 i _ a.1 in
    let c = passed_test (has_high m) 24 i _ b.1 in
    record { not-outside = a.0; not-second = b.0; not_high = c.0; others = c.1 }

pub first_passes : (i : ℕ) (seen : List Mark) (m : Mark) (ms : List Mark) → Passed i seen m ms → profile_from i seen (m ∷ ms) ≡ accepted tt
unfolding profile_from
first_passes i seen m ms p = simp (p.not-outside, p.not-second, p.not_high, p.others)
