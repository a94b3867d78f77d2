-- Printed lists of one entry to 64.
-- Assumes nothing.
use Prim.Native.Nat.{ℕ, ◌≤◌}
use mathlib.Core.Path.{◌≡◌}
use mathlib.Core.Bool.{Bool, true, false≢true}
use mathlib.Core.List.{List, [], ◌∷◌, map}
use borrow.Author.Tests.{leb-true}
use lib.Dec.{leb}
use lib.ListN.{length, length-map}
use Rattle.tokens.specs.Token.{Shape}
use Rattle.text.specs.Lists.{all}
use Rattle.text.proofs.Tests.{and_left, and_right}
use Rattle.reading.specs.Statement.{Item}
use Rattle.reading.specs.Argument.{array}
use Rattle.reading_laws.specs.WellFormed.{one_to64}
use Rattle.canonical.specs.Canonical.{bracketed, bare_one}
use Rattle.canonical_laws.specs.Printed.{Entry, Entries, no_entry, one_more, bare_arg, Printed}
use Rattle.canonical_laws.proofs.Arguments.{array-printed, bare-printed}

-- what a list of one to 64 is known by
pub few : {A : Type 0} (p : A → Bool) (xs : List A) → one_to64 p xs ≡ true → length xs ≤ 64
few p [] e = absurd (false≢true e)
few p (x ∷ xs) e = leb-true (length (x ∷ xs)) 64 (and_left (leb (length (x ∷ xs)) 64) (all p (x ∷ xs)) e)

pub each : {A : Type 0} (p : A → Bool) (xs : List A) → one_to64 p xs ≡ true → all p xs ≡ true
each p [] e = absurd (false≢true e)
each p (x ∷ xs) e = and_right (leb (length (x ∷ xs)) 64) (all p (x ∷ xs)) e

module _ {A : Type 0} (shape : A → Shape) (entry : A → Item) (p : A → Bool) (h : (x : A) → p x ≡ true → Entry (shape x) (entry x)) where
  -- entries that are each printed
  entries-printed : (xs : List A) → all p xs ≡ true → Entries (map shape xs) (map entry xs)
  entries-printed [] e = no_entry
  entries-printed (x ∷ xs) e = one_more (h x (and_left (p x) (all p xs) e)) (entries-printed xs (and_right (p x) (all p xs) e))

  few_entries_lem : (xs : List A) → one_to64 p xs ≡ true → length (map entry xs) ≤ 64
  few_entries_lem xs e = rw (length-map xs entry) (few p xs e)

  -- A list of them is read again, in brackets, and bare where it has one entry.
  pub list_printed : {limit : ℕ} (xs : List A) → one_to64 p xs ≡ true → Printed limit (bracketed (map shape xs)) (array 0 (map entry xs))
  list_printed xs e = array-printed (entries-printed xs (each p xs e)) (few_entries_lem xs e)

  pub bare_list_printed : {limit : ℕ} (xs : List A) → one_to64 p xs ≡ true → Printed limit (bare_one (map shape xs)) (bare_arg (map entry xs))
  bare_list_printed xs e = bare-printed (entries-printed xs (each p xs e)) (few_entries_lem xs e)
