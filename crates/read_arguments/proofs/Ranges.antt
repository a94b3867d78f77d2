-- The ends of a range, by what each is as a count.
-- Assumes nothing.
use mathlib.Core.Path.{◌≡◌}
use Prim.Native.Nat.{ℕ, ◌≤◌, ◌<◌}
use borrow.Author.Tests.{lt-ltb, le-ltb}
use Rattle.reading.specs.Statement.{Name}
use Rattle.reading.specs.Answer.{accepted, refused, backwards}
use Rattle.reading.specs.Argument.{range, count_at, range_of}

module _ (limit : ℕ) (low high : Name) where
  pub low_bad : (n p : ℕ) → count_at limit low ≡ refused n p → range_of limit low high ≡ refused n p
  unfolding range_of
  low_bad n p e = rw e

  module _ (a : ℕ) (e : count_at limit low ≡ accepted a) where
    pub high-bad : (n p : ℕ) → count_at limit high ≡ refused n p → range_of limit low high ≡ refused n p
    unfolding range_of
    high-bad n p f = rw (e, f)

    pub ends-backwards : (b : ℕ) → count_at limit high ≡ accepted b → b < a → range_of limit low high ≡ backwards low.place
    unfolding range_of
    ends-backwards b f h = rw (e, f, lt-ltb b a h)

    pub ends-fine : (b : ℕ) → count_at limit high ≡ accepted b → a ≤ b → range_of limit low high ≡ accepted (range low.place a b)
    unfolding range_of
    ends-fine b f h = rw (e, f, le-ltb b a h)
