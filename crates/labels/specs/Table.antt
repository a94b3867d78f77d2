-- Document 01, Forms: "one label table with family marks, one proof for all families". A table is rows of 16 bytes: the mark of
-- the family, the number of the label's bytes, the label, and then digits.
use Rattle.std.specs.Prelude.{ℕ, List, [], ◌∷◌, ◌++◌, length, take, Option as Option·rust, Some, None}
use Rattle.std.proofs.Math.Option.{Option, some, none}
use Rattle.text.specs.Bytes.{bytes}
use Rattle.labels.specs.declared.Family.{Family}
use Rattle.labels.specs.Label.{families, mark_of, keyword_mark, labels_of, keywords}

abbrev pub row : ℕ → List ℕ → List ℕ
row mark label = mark ∷ length label ∷ take 14 (label ++ bytes "0123456789ab")

abbrev pub rows : ℕ → List (List ℕ) → List ℕ
rows mark [] = []
rows mark (l ∷ ls) = row mark l ++ rows mark ls

abbrev pub rows_of : List Family → List ℕ
rows_of [] = []
rows_of (f ∷ fs) = rows (mark_of f) (labels_of f) ++ rows_of fs

-- the table of labels, family after family
unfoldable pub label_table : List ℕ
label_table = rows_of families

unfoldable pub keyword_table : List ℕ
keyword_table = rows keyword_mark keywords

-- a place in a family, or none, as a look-up answers it
abbrev pub found_as : Option ℕ → Option·rust ℕ
found_as none = None
found_as (some i) = Some i
