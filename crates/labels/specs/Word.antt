-- Words compared ignoring ASCII case (000, `eq_ignore_ascii_case`).
use Rattle.std.specs.Prelude.{ℕ, ◌+◌, Bool, true, false, cond, ◌&&◌, List, [], ◌∷◌, eqb}
use Rattle.std.proofs.Math.Option.{Option, some, none}
use Rattle.text.specs.Bytes.{between}
use Rattle.text.specs.Lists.{later_by_one, absent}

-- a letter's lower case; any other byte as it is
abbrev pub lower : ℕ → ℕ
lower b = cond (between "A" "Z" b) (b + 32) b

unfoldable pub same_word : List ℕ → List ℕ → Bool
same_word [] [] = true
same_word [] (y ∷ ys) = false
same_word (x ∷ xs) [] = false
same_word (x ∷ xs) (y ∷ ys) = eqb (lower x) (lower y) && same_word xs ys

-- the place of the first label that is the word, ignoring case
unfoldable pub find : List ℕ → List (List ℕ) → Option ℕ
find w [] = none
find w (l ∷ ls) = cond (same_word w l) (some 0) (later_by_one (find w ls))

-- no two labels of the list are the same word
unfoldable pub distinct : List (List ℕ) → Bool
distinct [] = true
distinct (l ∷ ls) = absent (find l ls) && distinct ls
