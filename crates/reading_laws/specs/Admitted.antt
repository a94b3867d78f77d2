-- What is looked at before a text is read: document 02, P1, "a count ceiling from 0 to 256", and document 01, Faults, 1: at most 16,384 bytes.
use Rattle.std.specs.Prelude.{ℕ, ◌≤◌, List, length}

pub record Admitted (limit : ℕ) (text : List ℕ) : Type 0 where
  pub ceiling : limit ≤ 256
  pub short : length text ≤ 16384
