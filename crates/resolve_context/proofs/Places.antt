-- The place of a name in a list, from the first entry on: what is found in the whole list is what is found in what is left of it, counted on.
-- Assumes nothing.
use mathlib.Core.Path.{◌≡◌, refl, sym, ap, ◌∙◌}
use mathlib.Core.Bool.{Bool, true, false, false≢true}
use mathlib.Core.List.{List, []}
use mathlib.Core.Option.{Option, some, none}
use Prim.Native.Nat.{ℕ, suc, ◌+◌, ◌≤◌, ◌<◌}
use native.Mathlib.Nat.{add-zero, zero-add}
use native.Mathlib.Numerals.{add-one}
use native.Mathlib.Omega.{arith}
use lib.ListN.{length, get_or, drop, drop_of_length-le}
use lib.Seq.{drop-cons}
use Rattle.text.specs.Lists.{later_by_one, place_in}
use Rattle.resolve_context.specs.Lists.{found_as}
use Rattle.std.specs.Prelude as prelude

-- a place, counted on from k
abbrev pub counted : ℕ → Option ℕ → Option ℕ
counted k none = none
counted k (some i) = some (k + i)

counted-zero : (o : Option ℕ) → counted 0 o ≡ o
counted-zero none = refl
counted-zero (some i) = ap {B = Option ℕ} some (zero-add i)

counted_next : (k : ℕ) (o : Option ℕ) → counted k (later_by_one o) ≡ counted (k + 1) o
counted_next k none = refl
counted_next k (some i) = ap {B = Option ℕ} some (omega arith)

-- for any test of a name: that it has these bytes, or that it is the same word
module _ (p : List ℕ → Bool) (ws : List (List ℕ)) where
  -- none of the first k entries passes
  abbrev pub Passed : ℕ → Type 0
  Passed k = place_in p ws ≡ counted k (place_in p (drop k ws))

  pub passed_none : Passed 0
  passed_none = sym (counted-zero (place_in p ws))

  pub passed-more : (k : ℕ) → k < length ws → Passed k → p (get_or ws k []) ≡ false → Passed (k + 1)
  passed-more k h q e = q ∙ simp (drop-cons ws k [] h, e, add-one k) (counted_next k (place_in p (drop (suc k) ws)) ∙ rw (add-one k))

  pub passed-found : (k : ℕ) → k < length ws → Passed k → p (get_or ws k []) ≡ true → found_as (place_in p ws) ≡ prelude.Some k
  passed-found k h q e = let found : place_in p ws ≡ some k = q ∙ simp (drop-cons ws k [] h, e, add-zero k) in ap found_as found

  pub passed-all : (k : ℕ) → length ws ≤ k → Passed k → found_as (place_in p ws) ≡ prelude.None
  passed-all k h q = let nowhere : place_in p ws ≡ none = q ∙ simp (drop_of_length-le ws h) in ap found_as nowhere

-- what an answer says of the place
abbrev is_place : prelude.Option ℕ → Bool
is_place (prelude.Some i) = true
is_place prelude.None = false

abbrev place_of : prelude.Option ℕ → ℕ
place_of (prelude.Some i) = i
place_of prelude.None = 0

pub found_nowhere : (o : Option ℕ) → found_as o ≡ prelude.None → o ≡ none
found_nowhere none e = refl
found_nowhere (some i) e = absurd (false≢true (ap is_place (sym e)))

pub found_at : (o : Option ℕ) (k : ℕ) → found_as o ≡ prelude.Some k → o ≡ some k
found_at none k e = absurd (false≢true (ap is_place e))
found_at (some i) k e = ap {B = Option ℕ} some (ap place_of e)
