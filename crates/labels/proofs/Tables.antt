-- The rows of a table: which labels they hold, and that each of them fits.
-- Assumes nothing.
use mathlib.Core.Path.{◌≡◌, refl, sym, ◌∙◌}
use mathlib.Core.Bool.{true}
use mathlib.Core.List.{List, []}
use Prim.Native.Nat.{ℕ, ◌+◌, ◌*◌, ◌≤◌, ◌<◌}
use native.Mathlib.Omega.{arith}
use lib.Dec.{leb}
use lib.ListN.{length, get_or, length-map, get_or-eq_default}
use borrow.Author.Tests.{leb-true}
use Rattle.text.specs.Bytes.{count_up}
use Rattle.text.proofs.Tests.{halves}
use Rattle.text.proofs.Lists.{count_up-length, count_up_at, count_up-every}
use Rattle.labels.specs.Table.{keyword_table}
use Rattle.labels.specs.Label.{keyword_mark, keywords}
use Rattle.labels.specs.Row.{label_at, labels_in, row_fits, marked, Holds}

-- a row that fits: where it ends, and how long its label is at most
pub row_within : (t : List ℕ) (i : ℕ) → row_fits t i ≡ true → (16 * i + 16 ≤ length t) × (get_or t (16 * i + 1) 0 ≤ 14)
row_within t i h =
    let p = halves (leb (16 * i + 16) (length t)) (leb (get_or t (16 * i + 1) 0) 14) h in
    (leb-true _ _ p.0, leb-true _ _ p.1)

pub rows-held : {t : List ℕ} {m i n : ℕ} {ls : List (List ℕ)} → Holds t m i n ls → length ls ≡ n
unfolding labels_in
rows-held {t} {m} {i} {n} h = rw (← h.held) (length-map (count_up i n) (label_at t) ∙ count_up-length i n)

-- the row of a held label fits and is the label's
pub held-row : {t : List ℕ} {m i n : ℕ} {ls : List (List ℕ)} → Holds t m i n ls → (k : ℕ) → k < length ls
    → (row_fits t (i + k) ≡ true) × (label_at t (i + k) ≡ get_or ls k [])
unfolding labels_in
held-row {t} {m} {i} {n} h k l =
    let short : k < n = omega (arith, rows-held h) in
    (count_up-every (row_fits t) i n k h.fit short, rw h.held at (sym (count_up_at (label_at t) [] i n k short)))

-- what is lent as a table holds what the table does
pub lent : {s t : List ℕ} {m i n : ℕ} {ls : List (List ℕ)} → s ≡ t → Holds t m i n ls → Holds s m i n ls
lent e h = rw e h

pub keywords-held : Holds keyword_table keyword_mark 0 15 keywords
unfolding keyword_table keywords labels_in marked
keywords-held = record { marks = refl; fit = refl; held = refl }

pub past_row : (ls : List (List ℕ)) (k : ℕ) → length ls ≤ k → get_or ls k [] ≡ []
past_row ls k h = get_or-eq_default ls [] h
