-- What an argument is taken for is printed with no more bytes than the argument is written with.
-- Assumes nothing.
use Prim.Native.Nat.{ℕ, ◌+◌, ◌≤◌}
use native.Mathlib.Omega.{arith}
use mathlib.Core.Path.{◌≡◌, refl, ap}
use mathlib.Core.Bool.{Bool, true, false, cond}
use mathlib.Core.List.{List, [], ◌∷◌, map}
use mathlib.Core.Option.{some}
use lib.Dec.{eqb}
use lib.ListN.{length, get_or, length-map}
use Rattle.text.specs.Bytes.{bytes}
use Rattle.tokens.specs.Token.{Shape, width}
use Rattle.counts.specs.Decimal.{digits_of}
use Rattle.counts.proofs.Decimal.{length-digits_of-value}
use Rattle.labels.specs.declared.Family.{Family}
use Rattle.labels.specs.Word.{lower, same_word, find}
use Rattle.labels.specs.Label.{labels_of}
use Rattle.labels.proofs.Words.{same-lower}
use Rattle.labels.proofs.Finding.{found_at}
use Rattle.reading.specs.Statement.{Name, Item}
use Rattle.reading.specs.Parts.{Part}
use Rattle.reading.specs.Argument.{Arg, star, plus, symbol, single, range, array, without, firsts}
use Rattle.reading.specs.Feature.{is_n}
use Rattle.reading_laws.specs.Taken.{IsMode, IsCount, a_count, EachTaken, none_taken, one_taken, RangeTaken, from_to, TakenAs}
use Rattle.reading_laws.specs.Taken as taken
use Rattle.canonical.specs.Canonical.{name_shape, item_shape, label_shape, count_shape, part_shapes}
use Rattle.canonical_laws.specs.Shorter.{entry_widths, argument_widths, name_width, item_widths, arg_width}
use Rattle.canonical_laws.proofs.ShorterLists.{name_shape-width, bracketed-width, bare_one-width}

-- Names.

-- an array's names are printed as its items are
names-width : (is : List Item) → entry_widths (map name_shape (map (λ x. x.name) is)) ≡ item_widths is
names-width [] = refl
names-width (i ∷ is) = simp (names-width is)

-- Modes.

-- Words that are the same ignoring case are as long as each other.
pub same_length : (v w : List ℕ) → same_word v w ≡ true → length v ≡ length w
same_length v w e = omega (arith, ap length (same-lower v w e), length-map v lower, length-map w lower)

-- A label is as long as the word that finds it.
pub label_length : (w : List ℕ) (ls : List (List ℕ)) (i : ℕ) → find w ls ≡ some i → length (get_or ls i []) ≡ length w
label_length w ls i e = omega (arith, same_length w (get_or ls i []) (found_at w ls i e).same)

-- What items are taken for, each printed no longer than its item, is no longer than the items.
taken_shorter :
    {R : Name → ℕ → Type 0} (g : ℕ → Shape) {is : List Item} {ms : List ℕ}
    → ((n : Name) (m : ℕ) → R n m → width (g m) ≤ name_width n)
    → EachTaken R is ms
    → entry_widths (map g ms) ≤ item_widths is
taken_shorter g h none_taken = omega arith
taken_shorter g h (one_taken {i} {m} r t) = omega (arith, h i.name m r, taken_shorter g h t, name_shape-width i.name)

mode_shorter : (f : Family) (n : Name) (m : ℕ) → IsMode f n m → width (label_shape f m) ≤ name_width n
mode_shorter f n m e = omega (arith, label_length n.spelling (labels_of f) m e)

-- what goes with the repeats
without_less : (g : ℕ → Shape) (m : ℕ) (ms : List ℕ) → entry_widths (map g (without m ms)) ≤ entry_widths (map g ms)
without_less g m [] = omega arith
without_less g m (x ∷ xs) = go (eqb m x) (without_less g m xs)
  where
    go :
        (t : Bool)
        → entry_widths (map g (without m xs)) ≤ entry_widths (map g xs)
        → entry_widths (map g (cond t (without m xs) (x ∷ without m xs))) ≤ entry_widths (map g (x ∷ xs))
    go true h = omega arith
    go false h = omega arith

firsts_less : (g : ℕ → Shape) (ms : List ℕ) → entry_widths (map g (firsts ms)) ≤ entry_widths (map g ms)
unfolding firsts
firsts_less g [] = omega arith
firsts_less g (m ∷ ms) = omega (arith, without_less g m (firsts ms), firsts_less g ms)

-- Counts.

-- a count is printed without leading zeros
count_shorter : (limit : ℕ) (n : Name) (v : ℕ) → IsCount limit n v → length (digits_of v) ≤ name_width n
count_shorter limit n v (a_count d h) = length-digits_of-value n.spelling d

pub range_shorter : {limit : ℕ} {low high : Name} {a : Arg} → RangeTaken limit low high a → arg_width a ≤ name_width low + 2 + name_width high
range_shorter {limit} {low} {high} (from_to {a} {b} e h l) = omega (arith, count_shorter limit low a e, count_shorter limit high b h)

-- Arguments.

-- N is one letter
n-width : (a : Arg) → is_n a ≡ true → 1 ≤ arg_width a
n-width (star o) e = omega arith
n-width (plus o) e = omega arith
n-width (symbol o n) e = omega arith
n-width (single i) e = omega (arith, same_length i.name.spelling (bytes "N") e)
n-width (range o a b) e = omega arith
n-width (array o is) e = omega arith

-- What an argument is taken for is printed as one argument, which is no longer.
pub part_shorter :
    {limit : ℕ} {a : Arg} {p : Part}
    → TakenAs limit a p
    → (1 ≤ argument_widths (part_shapes p)) × (argument_widths (part_shapes p) ≤ arg_width a + 1)
part_shorter taken.every_mode = (omega arith, omega arith)
part_shorter (taken.one_mode {f} {n} {m} e) = (omega arith, omega (arith, mode_shorter f n m e))
part_shorter (taken.some_modes {f} {ms} t) =
    let few = taken_shorter (label_shape f) (mode_shorter f) t in
    (omega arith, omega (arith, few, firsts_less (label_shape f) ms, bare_one-width (map (label_shape f) (firsts ms))))
part_shorter {limit} (taken.one_count {n} {v} e) = (omega arith, omega (arith, count_shorter limit n v e))
part_shorter taken.a_range = (omega arith, omega arith)
part_shorter {limit} (taken.some_counts {vs} t) =
    (omega arith, omega (arith, taken_shorter count_shape (count_shorter limit) t, bracketed-width (map count_shape vs)))
part_shorter (taken.an_n {a} e) = (omega arith, omega (arith, n-width a e))
part_shorter taken.every_name = (omega arith, omega arith)
part_shorter taken.a_symbol = (omega arith, omega arith)
part_shorter (taken.one_name {i}) = (omega arith, omega (arith, name_shape-width i.name))
part_shorter (taken.some_names {i} {is}) =
    (omega arith, omega (arith, bare_one-width (map name_shape (map (λ x. x.name) (i ∷ is))), names-width (i ∷ is)))
part_shorter (taken.a_name {i}) = (omega arith, omega (arith, name_shape-width i.name))
part_shorter (taken.one_value {i}) = (omega arith, omega (arith, name_shape-width i.name))
part_shorter (taken.some_values {i} {is}) = (omega arith, omega (arith, bare_one-width (map item_shape (i ∷ is))))
