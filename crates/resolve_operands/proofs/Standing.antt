-- Whether an index stands among the first so many, as they are looked at one after the other.
-- Assumes nothing.
use mathlib.Core.Path.{◌≡◌}
use mathlib.Core.Bool.{false, ◌||◌}
use mathlib.Core.List.{List}
use Prim.Native.Nat.{ℕ, ◌+◌, ◌≤◌, ◌<◌}
use native.Mathlib.Numerals.{add-one}
use native.Mathlib.Omega.{arith}
use lib.Dec.{eqb}
use lib.ListN.{length, take, drop, get_or, drop_of_length-le}
use lib.Seq.{length-take-le, drop-cons, get_or-take}
use Rattle.resolve_operands.specs.Picked.{stands_in}

-- What is left to be looked at of the first so many indexes.
pub stands_step : (is : List ℕ) (n k i : ℕ) → k < n → n ≤ length is
    → stands_in (drop k (take n is)) i ≡ (eqb (get_or is k 0) i || stands_in (drop (k + 1) (take n is)) i)
stands_step is n k i h l = rw (drop-cons (take n is) k 0 (omega (arith, length-take-le n is l, h)), get_or-take n is k 0 h, add-one)

pub stands-none : (is : List ℕ) (n k i : ℕ) → n ≤ k → n ≤ length is → stands_in (drop k (take n is)) i ≡ false
stands-none is n k i h l = rw (drop_of_length-le (take n is) {i = k} (omega (arith, length-take-le n is l, h)))
