-- Document 01, Resolving: "Collect every LET; the key ignores ASCII case."
use Rattle.std.specs.Prelude.{ℕ, List, [], ◌∷◌, ◌≡◌}
use Rattle.std.proofs.Math.Option.{Option, some, none}
use Rattle.reading.specs.Statement.{Statement}
use Rattle.text.specs.Lists.{again}
use Rattle.resolving.specs.Symbols.{Definition, lets, same_key}
use Rattle.resolve_symbols.specs.Lets.{definitions_in, LetsFit}

-- the LETs among the statements
abbrev pub present : List (Option Definition) → List Definition
present [] = []
present (none ∷ ds) = present ds
present (some d ∷ ds) = d ∷ present ds

-- they stand in the run, and no two have one key
pub record CollectedAll (s : List ℕ) (ss : List Statement) (run : List ℕ) (n : ℕ) : Type 0 where
  pub fit : LetsFit s run n
  pub are : definitions_in s run n ≡ present (lets ss)
  pub once : again same_key (lets ss) ≡ none
