-- What `find` finds: a place of the list whose label is the word.
-- Assumes nothing.
use mathlib.Core.Path.{◌≡◌, refl}
use mathlib.Core.Bool.{Bool, true, false, cond}
use mathlib.Core.List.{List, [], ◌∷◌}
use mathlib.Core.Option.{Option, some, none, none-ne-some}
use Prim.Native.Nat.{ℕ, zero, suc, ◌<◌}
use native.Mathlib.Omega.{arith}
use lib.ListN.{length, get_or}
use Rattle.labels.specs.Word.{same_word, find}
use Rattle.text.specs.Lists.{later_by_one}

-- the place lies in the list and has the word
pub record FoundAt (w : List ℕ) (ls : List (List ℕ)) (i : ℕ) : Type 0 where
  pub within : i < length ls
  pub same : same_word w (get_or ls i []) ≡ true

-- the same, for a list of one label more, from the test of that label and what is found in the rest
at_more : (w l : List ℕ) (ls : List (List ℕ)) (i : ℕ) (t : Bool) → same_word w l ≡ t
    → (o : Option ℕ) → ((j : ℕ) → o ≡ some j → FoundAt w ls j) → cond t (some 0) (later_by_one o) ≡ some i → FoundAt w (l ∷ ls) i
at_more w l ls zero true e o f h = record { within = omega arith; same = e }
at_more w l ls (suc i) true e o f h = let z : ◌≡◌ {A = ℕ} 0 (suc i) = cc in absurd (omega arith)
at_more w l ls i false e none f h = absurd (none-ne-some i h)
at_more w l ls zero false e (some j) f h = let z : ◌≡◌ {A = ℕ} (suc j) 0 = cc in absurd (omega arith)
at_more w l ls (suc i) false e (some j) f h =
    let r = f i (cc) in
    record { within = omega arith; same = r.same }

pub found_at : (w : List ℕ) (ls : List (List ℕ)) (i : ℕ) → find w ls ≡ some i → FoundAt w ls i
unfolding find
found_at w [] i h = absurd (none-ne-some i h)
found_at w (l ∷ ls) i h = at_more w l ls i (same_word w l) refl (find w ls) (found_at w ls) h
