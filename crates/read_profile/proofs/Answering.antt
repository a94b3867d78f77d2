-- What the profile says of a text, by what it was read as.
-- Assumes nothing.
use Prim.Native.Nat.{ℕ}
use mathlib.Core.Path.{◌≡◌, ap, sym}
use mathlib.Core.List.{List}
use Rattle.reading.specs.Statement.{Statement}
use Rattle.reading.specs.Answer.{Answer, accepted, refused, ◌>>=◌}
use Rattle.reading.specs.Read.{read_text}
use Rattle.profiling.specs.Profile.{profile_of, profile_text}

-- a text that is refused
pub refused_so : (limit : ℕ) (s : List ℕ) (n p : ℕ) → read_text limit s ≡ refused n p → refused n p ≡ profile_text limit s
unfolding profile_text
refused_so limit s n p e = sym (ap (λ (a : Answer (List Statement)). a >>= profile_of) e)

-- a text that is accepted
pub accepted_so : (limit : ℕ) (s : List ℕ) (ss : List Statement) → read_text limit s ≡ accepted ss → profile_of ss ≡ profile_text limit s
unfolding profile_text
accepted_so limit s ss e = sym (ap (λ (a : Answer (List Statement)). a >>= profile_of) e)
