-- What the tokens of a text made of two are made of.
use Rattle.std.specs.Prelude.{ℕ, ◌+◌, List, [], ◌∷◌}
use Rattle.tokens.specs.Token.{Token, Shape, width, Tokens, finish, bad, ◌▸◌}

-- the second's tokens after the first's; a byte that starts no token ends both
abbrev pub append : Tokens → Tokens → Tokens
append finish us = us
append (bad o) us = bad o
append (t ▸ ts) us = t ▸ append ts us

-- the same tokens, each as many bytes later
abbrev pub later : ℕ → Token → Token
later k t = record { place = t.place + k; shape = t.shape }

abbrev pub raise : ℕ → Tokens → Tokens
raise k finish = finish
raise k (bad o) = bad (o + k)
raise k (t ▸ ts) = later k t ▸ raise k ts

-- tokens of these shapes, one after the other from an offset on, nothing between them
abbrev pub placed : ℕ → List Shape → Tokens
placed o [] = finish
placed o (x ∷ xs) = record { place = o; shape = x } ▸ placed (o + width x) xs
