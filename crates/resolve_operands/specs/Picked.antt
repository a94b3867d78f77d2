-- Indexes that an array holds: each once, in the order in which they came.
use Rattle.std.specs.Prelude.{ℕ, ◌≤◌, ◌<◌, ◌≡◌, Bool, cond, List, [], ◌∷◌, ◌++◌, eqb, length, take, get_or}
use Rattle.text.specs.Lists.{any}
use Rattle.reading.specs.Answer.{Answer, accepted}

-- an index stands among others
abbrev pub stands_in : List ℕ → ℕ → Bool
stands_in is i = any (λ j. eqb j i) is

-- one index more, unless it stands there already
abbrev pub with_index : List ℕ → ℕ → List ℕ
with_index is i = is ++ cond (stands_in is i) [] (i ∷ [])

-- indexes of a list with so many entries, no more than 64
pub record Indexes (n : ℕ) (is : List ℕ) : Type 0 where
  pub few : length is ≤ 64
  pub below : (k : ℕ) → k < length is → get_or is k 0 < n

-- an answer's indexes stand in the array that was lent: so many, of a list with n entries
pub record Picked (n : ℕ) (a : Answer (List ℕ)) (is : List ℕ) (k : ℕ) : Type 0 where
  pub size : length is ≡ 64
  pub few : k ≤ 64
  pub indexes : Indexes n (take k is)
  pub found : a ≡ accepted (take k is)
