-- Arguments before their feature says what they mean (000, `Arg`), and what each kind of argument takes them for (000, `names_of`,
-- `modes_of`, `operand_of`, `counts_of`).
use Rattle.std.specs.Prelude.{ℕ, cond, List, [], ◌∷◌, map, eqb, ltb, Option as Option·rust, Some, None}
use Rattle.std.proofs.Math.Option.{Option, some, none}
use Rattle.counts.specs.Count.{count_of}
use Rattle.labels.specs.declared.Family.{Family}
use Rattle.labels.specs.Word.{find}
use Rattle.labels.specs.Label.{labels_of}
use Rattle.reading.specs.Statement.{
  Name,
  Kind,
  a_word,
  a_number,
  Item,
  Modes,
  all_modes,
  modes,
  Counts,
  count,
  counts,
  Operand,
  everyone,
  names,
}
use Rattle.reading.specs.Statement as statement
use Rattle.reading.specs.Answer.{Answer, accepted, ◌>>=◌, bad_count, backwards, wrong_argument, unknown_mode}

-- An argument, with the offset of its first byte where its entries do not have it.
pub data Arg : Type 0 where
  star plus : ℕ → Arg
  symbol : ℕ → Name → Arg
  single : Item → Arg
  range : ℕ → ℕ → ℕ → Arg
  array : ℕ → List Item → Arg

unfoldable pub place_of : Arg → ℕ
place_of (star o) = o
place_of (plus o) = o
place_of (symbol o n) = o
place_of (single i) = i.name.place
place_of (range o a b) = o
place_of (array o is) = o

-- a number as a count
abbrev pub counted : Name → Option·rust ℕ → Answer ℕ
counted n (Some v) = accepted v
counted n None = bad_count n.place

unfoldable pub count_at : ℕ → Name → Answer ℕ
count_at limit n = counted n (count_of limit n.spelling)

-- "the ends of a range, left first, once both are read as numbers"
unfoldable pub range_of : ℕ → Name → Name → Answer Arg
range_of limit low high = do
  a ← count_at limit low
  b ← count_at limit high
  cond (ltb b a) (backwards low.place) (accepted (range low.place a b))

-- names: one alone, or an array that is not empty
unfoldable pub items_of : Arg → Answer (List Item)
items_of (star o) = wrong_argument o
items_of (plus o) = wrong_argument o
items_of (symbol o n) = wrong_argument o
items_of (single i) = accepted (i ∷ [])
items_of (range o a b) = wrong_argument o
items_of (array o []) = wrong_argument o
items_of (array o (i ∷ is)) = accepted (i ∷ is)

-- parameters or covariates
unfoldable pub operand_of : Arg → Answer Operand
operand_of (star o) = accepted everyone
operand_of (plus o) = wrong_argument o
operand_of (symbol o n) = accepted (statement.symbol n)
operand_of (single i) = accepted (names (i.name ∷ []))
operand_of (range o a b) = wrong_argument o
operand_of (array o []) = wrong_argument o
operand_of (array o (i ∷ is)) = accepted (names (map (λ x. x.name) (i ∷ is)))

-- a word or a number as a mode of a family
abbrev pub mode_at : Name → Option ℕ → Answer ℕ
mode_at n none = unknown_mode n.place
mode_at n (some i) = accepted i

abbrev pub mode_of : Family → Name → Answer ℕ
mode_of f n = mode_at n (find n.spelling (labels_of f))

unfoldable pub mode_list : Family → List Item → Answer (List ℕ)
mode_list f [] = accepted []
mode_list f (i ∷ is) = do
  m ← mode_of f i.name
  ms ← mode_list f is
  accepted (m ∷ ms)

-- "In an array of modes repeats go": the first of equal ones stays
abbrev pub without : ℕ → List ℕ → List ℕ
without m [] = []
without m (x ∷ xs) = cond (eqb m x) (without m xs) (x ∷ without m xs)

unfoldable pub firsts : List ℕ → List ℕ
firsts [] = []
firsts (m ∷ ms) = m ∷ without m (firsts ms)

-- a number alone is no mode; in an array it is read as one, and unknown
abbrev pub lone_mode : Family → Kind → Name → Answer Modes
lone_mode f a_word n = mode_of f n >>= λ m. accepted (modes (m ∷ []))
lone_mode f a_number n = wrong_argument n.place

unfoldable pub modes_of : Family → Arg → Answer Modes
modes_of f (star o) = accepted all_modes
modes_of f (plus o) = wrong_argument o
modes_of f (symbol o n) = wrong_argument o
modes_of f (single i) = lone_mode f i.kind i.name
modes_of f (range o a b) = wrong_argument o
modes_of f (array o []) = wrong_argument o
modes_of f (array o (i ∷ is)) = mode_list f (i ∷ is) >>= λ ms. accepted (modes (firsts ms))

-- a count of an array that starts at an offset
abbrev pub count_item : ℕ → ℕ → Kind → Name → Answer ℕ
count_item limit o a_word n = wrong_argument o
count_item limit o a_number n = count_at limit n

unfoldable pub count_list : ℕ → ℕ → List Item → Answer (List ℕ)
count_list limit o [] = accepted []
count_list limit o (i ∷ is) = do
  c ← count_item limit o i.kind i.name
  cs ← count_list limit o is
  accepted (c ∷ cs)

abbrev pub lone_count : ℕ → Kind → Name → Answer Counts
lone_count limit a_word n = wrong_argument n.place
lone_count limit a_number n = count_at limit n >>= λ c. accepted (count c)

unfoldable pub counts_of : ℕ → Arg → Answer Counts
counts_of limit (star o) = wrong_argument o
counts_of limit (plus o) = wrong_argument o
counts_of limit (symbol o n) = wrong_argument o
counts_of limit (single i) = lone_count limit i.kind i.name
counts_of limit (range o a b) = accepted (statement.range a b)
counts_of limit (array o []) = wrong_argument o
counts_of limit (array o (i ∷ is)) = count_list limit o (i ∷ is) >>= λ cs. accepted (counts cs)
