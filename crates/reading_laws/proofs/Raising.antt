-- Reading of a text that stands further on.
-- Assumes nothing.
use Prim.Native.Nat.{ℕ, ◌+◌}
use mathlib.Core.Path.{◌≡◌, refl, ◌∙◌, ap}
use Rattle.tokens.specs.Token.{Tokens, finish, bad, ◌▸◌}
use Rattle.token_laws.specs.Join.{later, raise}
use Rattle.reading.specs.Read.{Where, read_from}
use Rattle.reading_laws.specs.Moved.{move_where, move_tokens}
use Rattle.reading_laws.specs.Raised.{further, raise_read}
use Rattle.reading_laws.proofs.Moving.{reading_moved}

-- tokens that stand further on are moved
raise_moves : (d : ℕ) (ts : Tokens) → raise d ts ≡ move_tokens (further d) ts
raise_moves d finish = refl
raise_moves d (bad o) = refl
raise_moves d (t ▸ ts) = ap (λ (us : Tokens). later d t ▸ us) (raise_moves d ts)

-- The statements of tokens that stand further on are the same, further on, and so is the place of a refusal.
pub reading_raised :
    (d limit size n : ℕ) (w : Where) (ts : Tokens)
    → read_from limit (size + d) n (move_where (further d) w) (raise d ts) ≡ raise_read d (read_from limit size n w ts)
reading_raised d limit size n w ts =
    ap (read_from limit (size + d) n (move_where (further d) w)) (raise_moves d ts) ∙ reading_moved (further d) limit size n w ts
