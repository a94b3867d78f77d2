-- Notes as they stand in the output.
use Rattle.std.specs.Prelude.{ℕ, Bool, true, false, List, [], ◌∷◌}

abbrev pub dropped_at : ℕ → List ℕ
dropped_at i = 0 ∷ i ∷ []

abbrev pub additive_note : Bool → List (List ℕ)
additive_note true = (1 ∷ 0 ∷ []) ∷ []
additive_note false = []
