-- The entries of a list, one after the other: what an entry that stands ahead says of all of them, and how a list grows by one at its end.
-- Assumes nothing.
use mathlib.Core.Path.{◌≡◌, refl, ◌∙◌, ap, sym}
use mathlib.Core.Bool.{true, false, false≢true}
use mathlib.Core.List.{List, ◌∷◌, ◌++◌}
use Prim.Native.Nat.{ℕ, zero, suc, ◌-◌, ◌≤◌, ◌<◌}
use native.Mathlib.Nat.{le_of_suc-le-suc, not-suc-le-zero}
use native.Mathlib.Omega.{arith}
use lib.ListN.{length}
use Rattle.tokens.specs.Token.{Tokens}
use Rattle.reading.specs.Statement.{Item}
use Rattle.read_forms.specs.Items.{Ahead, an_entry, no_entry, by_entry, entry_ahead, Entered, entries, after_entries, listed}

-- An entry stands ahead: it is the first, and the others are those behind it.
module _ {ts us : Tokens} {i : Item} (e : Entered ts i us) where
  pub entries-ahead : (n : ℕ) → entries (suc n) ts ≡ i ∷ entries n us
  unfolding entries
  entries-ahead n = rw e.ahead

  pub listed-ahead : (n : ℕ) → listed (suc n) ts ≡ listed n us
  unfolding listed
  listed-ahead n = rw e.ahead

  pub after_ahead : (n : ℕ) → after_entries (suc n) ts ≡ after_entries n us
  unfolding after_entries
  after_ahead n = rw e.ahead

-- So many entries stand ahead, one behind the other.
pub data Standing : ℕ → Tokens → Type 0 where
  none : {ts : Tokens} → Standing zero ts
  more : {n : ℕ} {ts us : Tokens} {i : Item} → Entered ts i us → Standing n us → Standing (suc n) ts

pub standing : (n : ℕ) (ts : Tokens) → listed n ts ≡ true → Standing n ts
unfolding listed
standing zero ts h = none
standing (suc n) ts h = by-ahead (entry_ahead ts) refl h (standing n)
  where
    by-ahead :
        (a : Ahead)
        → entry_ahead ts ≡ a
        → by_entry a false (λ i us. listed n us) ≡ true
        → ((us : Tokens) → listed n us ≡ true → Standing n us)
        → Standing (suc n) ts
    by-ahead (an_entry i us) e h later = more (record { ahead = e }) (later us h)
    by-ahead no_entry e h later = absurd (false≢true h)

-- those of the first so many
standing_first : {i n : ℕ} {ts : Tokens} → Standing n ts → i ≤ n → listed i ts ≡ true
unfolding listed
standing_first {i = zero} l h = refl
standing_first {i = suc i} none h = absurd (not-suc-le-zero h)
standing_first {i = suc i} (more e l) h = listed-ahead e i ∙ standing_first l (le_of_suc-le-suc h)

-- the one behind so many
standing_next : {i n : ℕ} {ts : Tokens} → Standing n ts → i < n → listed 1 (after_entries i ts) ≡ true
unfolding after_entries
standing_next {i = zero} l h = standing_first l h
standing_next {i = suc i} none h = absurd (not-suc-le-zero h)
standing_next {i = suc i} (more e l) h = ap (listed 1) (after_ahead e i) ∙ standing_next l (le_of_suc-le-suc h)

pub first-listed : (i n : ℕ) (ts : Tokens) → listed n ts ≡ true → i ≤ n → listed i ts ≡ true
first-listed i n ts l h = standing_first (standing n ts l) h

pub next-listed : (i n : ℕ) (ts : Tokens) → listed n ts ≡ true → i < n → listed 1 (after_entries i ts) ≡ true
next-listed i n ts l h = standing_next (standing n ts l) h

-- Of `n` entries that are left, the first is taken.
module _ {n : ℕ} (k : 0 < n) {ts us : Tokens} {i : Item} (e : Entered ts i us) where
  one_less : suc (n - 1) ≡ n
  one_less = omega arith

  pub entries_next : entries n ts ≡ i ∷ entries (n - 1) us
  entries_next = rw one_less at (entries-ahead e (n - 1))

  pub listed_next : listed n ts ≡ true → listed (n - 1) us ≡ true
  listed_next l = sym (listed-ahead e (n - 1)) ∙ rw one_less l

-- One entry more at the end.
standing_last : {n : ℕ} {ts : Tokens} → Standing n ts → entries (suc n) ts ≡ entries n ts ++ entries 1 (after_entries n ts)
unfolding entries after_entries
standing_last none = refl
standing_last (more {n = n} {i = i} e l) = rw e.ahead (ap (λ (is : List Item). i ∷ is) (standing_last l))

standing_more : {n : ℕ} {ts : Tokens} → Standing n ts → listed 1 (after_entries n ts) ≡ true → listed (suc n) ts ≡ true
unfolding after_entries
standing_more none h = h
standing_more (more {n = n} e l) h = listed-ahead e (suc n) ∙ standing_more l (sym (ap (listed 1) (after_ahead e n)) ∙ h)

standing_after : {n : ℕ} {ts : Tokens} → Standing n ts → after_entries (suc n) ts ≡ after_entries 1 (after_entries n ts)
unfolding after_entries
standing_after none = refl
standing_after (more e l) = rw e.ahead (standing_after l)

standing_length : {n : ℕ} {ts : Tokens} → Standing n ts → length (entries n ts) ≡ n
unfolding entries
standing_length none = refl
standing_length (more e l) = rw e.ahead (ap suc (standing_length l))

module _ (n : ℕ) (ts : Tokens) (l : listed n ts ≡ true) where
  pub entries-more : entries (suc n) ts ≡ entries n ts ++ entries 1 (after_entries n ts)
  entries-more = standing_last (standing n ts l)

  pub listed_more : listed 1 (after_entries n ts) ≡ true → listed (suc n) ts ≡ true
  listed_more = standing_more (standing n ts l)

  pub after_more : after_entries (suc n) ts ≡ after_entries 1 (after_entries n ts)
  after_more = standing_after (standing n ts l)

  pub entries-length : length (entries n ts) ≡ n
  entries-length = standing_length (standing n ts l)
