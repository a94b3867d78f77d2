-- Numbers that can be written: the index behind them can be told, and each is a 32-bit number.
use Rattle.std.specs.Prelude.{ℕ, Bool, true, List, ◌≡◌, leb}
use Rattle.text.specs.Lists.{all}
use Rattle.print_writing.specs.Written.{Room}

abbrev pub is_small : ℕ → Bool
is_small n = leb n 4294967295

pub record Ready (at : ℕ) (ns : List ℕ) : Type 0 where
  pub room : Room at ns
  pub small : all is_small ns ≡ true
