-- A scan's answer as a number.
use Rattle.std.specs.Prelude.{ℕ, Option, Some, None}

-- the offset of the first byte that starts no token, or the text's length
abbrev pub stray_at : ℕ → Option ℕ → ℕ
stray_at size None = size
stray_at size (Some o) = o
