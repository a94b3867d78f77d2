-- What a scan looks for, and whether a term forces a pair again.
use Rattle.std.specs.Prelude.{ℕ, ◌/◌, ◌%◌, Bool, ◌&&◌, List, eqb, ltb}
use Rattle.text.specs.Lists.{any}
use Rattle.resolve_merging.specs.Packing.{bare, pair_of}
use Rattle.resolve_merging_few.specs.Sought.{Sought}
use Rattle.resolve_merging_few.specs.Sought as sought

-- the mark of an explicit term stands before its pair, so a pair's number and 4,096 is what an explicit term of it has there
abbrev pub passes_by : Sought → ℕ → Bool
passes_by sought.Explicit u = eqb (u / 131072 % 2) 1
passes_by sought.Mandatory u = eqb (u % 2) 0
passes_by (sought.ExplicitOf key) u = eqb (u / 32 % 8192) key
passes_by (sought.Effect e) u = eqb (bare u) e
passes_by (sought.ForcesBefore w) u = ltb (u / 262144) (w / 262144) && (eqb (u % 2) 0 && eqb (pair_of u) (pair_of w))

-- whether a term forces its pair, which one of these forces that is of an earlier statement
abbrev pub forced_at : List ℕ → ℕ → Bool
forced_at seen w = eqb (w % 2) 0 && any (passes_by (sought.ForcesBefore w)) seen
