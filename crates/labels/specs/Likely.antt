-- No two keywords have both their length and their second letter in common.
use Rattle.std.specs.Prelude.{ℕ, cond, eqb}
use Rattle.text.specs.Bytes.{is}

-- the place of the one keyword that a word of n bytes with the second letter b, in lower case, can be
unfoldable pub likely_place : ℕ → ℕ → ℕ
likely_place n b =
    cond (eqb n 3) (cond (is "i" b) 11 (cond (is "o" b) 12 14))
    (cond (eqb n 7) 4
    (cond (eqb n 8) 3
    (cond (eqb n 9) (cond (is "o" b) 5 6)
    (cond (eqb n 10) (cond (is "b" b) 0 (cond (is "f" b) 8 (cond (is "e" b) 10 13)))
    (cond (eqb n 11) (cond (is "l" b) 1 2)
    (cond (eqb n 12) 7 9))))))
