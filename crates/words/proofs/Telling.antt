-- A word tells its answer, where what is given and a place are below 2^32 and a refusal's number is at least 1.
-- Assumes nothing.
use Prim.Native.Nat.{ℕ, ◌+◌, ◌*◌, ◌/◌, ◌%◌, ◌≤◌, ◌<◌}
use native.Mathlib.Omega.{arith}
use mathlib.Core.Path.{◌≡◌, refl}
use borrow.Author.Tests.{eq-eqb, ne_eqb}
use Rattle.reading.specs.Answer.{Answer, accepted, refused}
use Rattle.words.specs.Word.{word, Below, answer_in}

-- a refusal's number and its place
module _ (k p : ℕ) (h : p < 4294967296) where
  pub number-told : (k * 4294967296 + p) / 4294967296 ≡ k
  number-told = omega arith

  pub place-told : (k * 4294967296 + p) % 4294967296 ≡ p
  place-told = omega arith

pub word-told : (a : Answer ℕ) → ((k p : ℕ) → a ≡ refused k p → 1 ≤ k) → Below a → answer_in (word a) ≡ a
word-told (accepted n) g h = rw (eq-eqb (n / 4294967296) 0 (omega arith))
word-told (refused k p) g h = rw (number-told k p h, place-told k p h, ne_eqb k 0 (λ e. omega (arith, g k p refl)))
