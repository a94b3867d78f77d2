-- What the profile check refuses has a fault of reading, or one of its own at the index of a statement.
-- Assumes nothing.
use Prim.Native.Nat.{ℕ, suc, ◌+◌, ◌≤◌, ◌<◌}
use native.Mathlib.Omega.{arith}
use mathlib.Core.Path.{◌≡◌, refl, ◌∙◌, ap₂, sym}
use mathlib.Core.Bool.{Bool, true, false, cond}
use mathlib.Core.List.{List, [], ◌∷◌, map}
use lib.ListN.{length, length-map}
use Rattle.reading.specs.Statement.{Statement}
use Rattle.reading.specs.Answer.{Answer, accepted, refused, ◌>>=◌}
use Rattle.reading.specs.Read.{read_text}
use Rattle.reading.proofs.Answers.{not-refused}
use Rattle.profiling.specs.Profile.{Mark, mark_of, is_outside, is_second, has_high, Yes, profile_from, profile_of, profile_text}
use Rattle.profiling.specs.Refused.{RefusedBy, by_reading, by_profile}

-- a fault of the profile at an index of so many
record Within (n p from many : ℕ) : Type 0 where
  least : 22 ≤ n
  most : n ≤ 24
  first : from ≤ p
  last : p < from + many

tested :
    (t : Bool) (k i : ℕ) (a : Answer Yes) {n p many : ℕ} → 22 ≤ k → k ≤ 24
    → cond t (refused k i) a ≡ refused n p
    → (a ≡ refused n p → Within n p i (suc many))
    → Within n p i (suc many)
tested true k i a {n} {p} l m e f =
    let x : k ≡ n = cc in
    let y : i ≡ p = cc in
    record { least = omega arith; most = omega arith; first = omega arith; last = omega arith }
tested false k i a l m e f = f e

from_within : (i : ℕ) (seen ms : List Mark) {n p : ℕ} → profile_from i seen ms ≡ refused n p → Within n p i (length ms)
unfolding profile_from
from_within i seen [] e = absurd (not-refused (sym e))
from_within i seen (m ∷ ms) {n} {p} e =
    tested (is_outside m) 22 i _ (omega arith) (omega arith) e
    (λ f.
    tested (is_second seen m) 23 i _ (omega arith) (omega arith) f
    (λ g.
    tested (has_high m) 24 i _ (omega arith) (omega arith) g
    (λ h. further (from_within (suc i) (m ∷ seen) ms h))))
  where
    further : Within n p (suc i) (length ms) → Within n p i (suc (length ms))
    further w = record { least = w.least; most = w.most; first = omega (arith, w.first); last = omega (arith, w.last) }

pub refused_by : (ceiling : ℕ) (text : List ℕ) (n p : ℕ) → profile_text ceiling text ≡ refused n p → RefusedBy ceiling text n p
unfolding profile_text profile_of
refused_by ceiling text n p e = by_cases (read_text ceiling text) refl e
  where
    by_cases : (a : Answer (List Statement)) → read_text ceiling text ≡ a → (a >>= profile_of) ≡ refused n p → RefusedBy ceiling text n p
    by_cases (refused k o) h e =
        let x : k ≡ n = cc in
        let y : o ≡ p = cc in
        by_reading (h ∙ ap₂ refused x y)
    by_cases (accepted ss) h e =
        let w = from_within 0 [] (map mark_of ss) e in
        by_profile ss h w.least w.most (omega (arith, w.last, length-map ss mark_of))
