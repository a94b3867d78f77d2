-- How the tokens of a text stand in it: one behind the other, each within the text and not empty, and each word and number spelled as the
-- text's bytes at its place. A byte that starts no token is within it too.
use Rattle.std.specs.Prelude.{ℕ, ◌+◌, ◌<◌, ◌≤◌, ◌≡◌, List, length, take, drop}
use Rattle.tokens.specs.Token.{Shape, word, number, mark, width, Tokens, finish, bad, ◌▸◌}

abbrev pub SpelledAt : List ℕ → ℕ → Shape → Type 0
SpelledAt text p (word w) = take (length w) (drop p text) ≡ w
SpelledAt text p (number w) = take (length w) (drop p text) ≡ w
SpelledAt text p (mark m) = Unit {0}

-- from an offset on
pub data Laid (text : List ℕ) : ℕ → Tokens → Type 0 where
  finished : {o : ℕ} → Laid text o finish
  strayed : {o p : ℕ} → p ≤ length text → Laid text o (bad p)
  laid :
      {o p : ℕ} {x : Shape} {ts : Tokens}
      → o ≤ p
      → 0 < width x
      → p + width x ≤ length text
      → SpelledAt text p x
      → Laid text (p + width x) ts
      → Laid text o (record { place = p; shape = x } ▸ ts)
