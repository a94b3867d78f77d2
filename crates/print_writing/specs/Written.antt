-- A buffer with bytes written into it from an offset on, as far as it has room: what does not fit is not written. So the same call
-- measures an answer, on a buffer with no room, and writes it.
use Rattle.std.specs.Prelude.{ℕ, zero, suc, ◌+◌, ◌≤◌, List, [], ◌∷◌, ◌≡◌, length}

-- the buffer with bytes, or elements of any type, written over its own from an offset on
unfoldable pub patch : {A : Type 0} → ℕ → List A → List A → List A
patch at [] bs = []
patch zero (x ∷ xs) [] = x ∷ xs
patch zero (x ∷ xs) (b ∷ bs) = b ∷ patch zero xs bs
patch (suc at) (x ∷ xs) bs = x ∷ patch at xs bs

-- the index behind the bytes can be told
abbrev pub Room : {A : Type 0} → ℕ → List A → Type 0
Room at bs = at + length bs ≤ 18446744073709551615

-- bytes were written from an offset on, and the answer is the index behind them
pub record Written {A : Type 0} (before : List A) (at : ℕ) (bs after : List A) (r : ℕ) : Type 0 where
  pub next : r ≡ at + length bs
  pub bytes : after ≡ patch at before bs
