-- What becomes of a text that is not admitted: its ceiling is too high, or it is too long.
-- Assumes nothing.
use mathlib.Core.Path.{◌≡◌}
use mathlib.Core.List.{List}
use Prim.Native.Nat.{ℕ, ◌≤◌, ◌<◌}
use borrow.Author.Tests.{lt-ltb, le-ltb}
use lib.ListN.{length}
use Rattle.reading.specs.Answer.{too_high, too_long}
use Rattle.reading.specs.Read.{read_text}

module _ (limit : ℕ) (s : List ℕ) where
  pub high_ceiling : 256 < limit → read_text limit s ≡ too_high
  unfolding read_text
  high_ceiling h = simp (lt-ltb 256 limit h)

  pub long_text : limit ≤ 256 → 16384 < length s → read_text limit s ≡ too_long
  unfolding read_text
  long_text c h = simp (le-ltb 256 limit c, lt-ltb 16384 (length s) h)
