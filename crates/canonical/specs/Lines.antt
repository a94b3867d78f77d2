-- Document 01, Reading and printing: "Statements are joined by `;`". A canonical text by its lines, the bytes that each statement prints as: all of
-- them joined by a byte, and one after the other, each behind what joins it to those before.
use Rattle.std.specs.Prelude.{ℕ, zero, suc, List, [], ◌∷◌, ◌++◌, map}
use Prim.Native.Char.{code}
use Rattle.tokens.specs.Spelling.{spell_all}
use Rattle.reading.specs.Statement.{Statement}
use Rattle.canonical.specs.Canonical.{statement_shapes}

-- a statement's printed bytes
abbrev pub line : Statement → List ℕ
line s = spell_all (statement_shapes s)

abbrev pub lines : List Statement → List (List ℕ)
lines ss = map line ss

-- lines with a byte between two
abbrev pub joined : ℕ → List (List ℕ) → List ℕ
joined b [] = []
joined b (l ∷ []) = l
joined b (l ∷ m ∷ ls) = l ++ b ∷ joined b (m ∷ ls)

-- what stands before a statement, and the statement with it, after so many others
abbrev pub joint_of : ℕ → List ℕ
joint_of zero = []
joint_of (suc n) = code ";" ∷ []

abbrev pub piece_of : ℕ → Statement → List ℕ
piece_of n s = joint_of n ++ line s

-- statements one after the other, after so many others
abbrev pub rest_of : ℕ → List Statement → List ℕ
rest_of n [] = []
rest_of n (s ∷ ss) = piece_of n s ++ rest_of (suc n) ss
