-- A table's rows as they are read: row i starts at byte 16 * i, with its mark; its label's length stands in its second byte.
use Rattle.std.specs.Prelude.{ℕ, ◌+◌, ◌*◌, ◌/◌, ◌≡◌, Bool, true, false, ◌&&◌, List, [], ◌∷◌, map, length, get_or, take, drop, eqb, leb}
use Rattle.text.specs.Bytes.{every, count_up}

-- the label of a row
abbrev pub label_at : List ℕ → ℕ → List ℕ
label_at t i = take (get_or t (16 * i + 1) 0) (drop (16 * i + 2) t)

-- the labels of n rows, from row i on
unfoldable pub labels_in : List ℕ → ℕ → ℕ → List (List ℕ)
labels_in t i n = map (label_at t) (count_up i n)

-- the row lies in the table, and its label lies in the row
abbrev pub row_fits : List ℕ → ℕ → Bool
row_fits t i = leb (16 * i + 16) (length t) && leb (get_or t (16 * i + 1) 0) 14

-- n rows, from row i on, fit
abbrev pub rows_fit : List ℕ → ℕ → ℕ → Bool
rows_fit t i n = every (row_fits t) (count_up i n)

-- those of some rows that have a mark
abbrev pub with_row : Bool → ℕ → List ℕ → List ℕ
with_row true i is = i ∷ is
with_row false i is = is

unfoldable pub marked : ℕ → List ℕ → List ℕ → List ℕ
marked m t [] = []
marked m t (i ∷ is) = with_row (eqb (get_or t (16 * i) 0) m) i (marked m t is)

-- the rows of a table with a mark
abbrev pub rows_with : ℕ → List ℕ → List ℕ
rows_with m t = marked m t (count_up 0 (length t / 16))

-- the rows of the table that have the mark are n, from row i on; they fit and hold a list of labels
pub record Holds (t : List ℕ) (mark i n : ℕ) (labels : List (List ℕ)) : Type 0 where
  pub marks : rows_with mark t ≡ count_up i n
  pub fit : rows_fit t i n ≡ true
  pub held : labels_in t i n ≡ labels
