-- What a list's entries are, where they can be read again.
-- Assumes nothing.
use mathlib.Core.Path.{◌≡◌, refl, ◌∙◌}
use mathlib.Core.Bool.{Bool, true, false}
use mathlib.Core.List.{List, [], ◌∷◌}
use Prim.Native.Nat.{ℕ}
use borrow.Author.Tests.{le-leb, leb-true}
use lib.Dec.{leb, lit≤}
use Rattle.tokens.specs.Next.{cursor}
use Rattle.reading.specs.Statement.{Kind}
use Rattle.read_forms.specs.declared.Name.{Name}
use Rattle.read_forms.specs.declared.Items.{Items}
use Rattle.read_forms.specs.Items.{tokens_from, name_in, entries, listed, items_in}
use Rattle.read_forms.specs.Fits.{Listed, Stands}

pub items_are : (s : List ℕ) (is : Items) → Listed s is → items_in s is ≡ entries is.count (tokens_from s is.first.at)
unfolding items_in
items_are s is l = simp (l.are, le-leb is.count 64 l.few)

-- a word or a number alone
pub one-listed : (s : List ℕ) (o : ℕ) → listed 1 (tokens_from s o) ≡ true → Listed s (record { first = cursor o; count = 1 })
one-listed s o e = record { are = e; few = lit≤ tt }

-- a list that has entries is listed
pub has_entries : (s : List ℕ) (is : Items) → (items_in s is ≡ [] → ⊥) → Listed s is
unfolding items_in
has_entries s is n = go (listed is.count (tokens_from s is.first.at)) (leb is.count 64) refl refl
  where
    go : (a b : Bool) → listed is.count (tokens_from s is.first.at) ≡ a → leb is.count 64 ≡ b → Listed s is
    go true true e f = record { are = e; few = leb-true is.count 64 f }
    go true false e f = absurd (n (simp (e, f)))
    go false b e f = absurd (n (simp e))

-- no entries
pub no_items : (s : List ℕ) (is : Items) → is.count ≡ 0 → items_in s is ≡ []
unfolding items_in entries listed
no_items s is e = simp e

-- a word or a number alone is its own list
pub stands_one :
    {s : List ℕ} {k : Kind} {n : Name} → Stands s k n → items_in s (record { first = cursor n.offset; count = 1 }) ≡ record { kind = k; name = name_in s n } ∷ []
stands_one {s} {k} {n} w = items_are s (record { first = cursor n.offset; count = 1 }) (one-listed s n.offset w.one) ∙ w.alone
