-- What arguments are taken for, moved.
-- Assumes nothing.
use Rattle.std.specs.Prelude.{Option as Option·rust, Some, None}
use Prim.Native.Nat.{ℕ}
use mathlib.Core.Path.{◌≡◌, refl, ap}
use mathlib.Core.List.{List, [], ◌∷◌, map}
use mathlib.Core.Option.{Option, some, none}
use lib.Dec.{ltb}
use Rattle.counts.specs.Count.{count_of}
use Rattle.labels.specs.declared.Family.{Family}
use Rattle.labels.specs.Word.{find}
use Rattle.labels.specs.Label.{labels_of}
use Rattle.reading.specs.Statement.{Name, Kind, a_word, a_number, Item}
use Rattle.reading.specs.Argument.{
  Arg,
  star,
  plus,
  symbol,
  single,
  range,
  array,
  place_of,
  counted,
  count_at,
  range_of,
  items_of,
  operand_of,
  mode_at,
  mode_of,
  mode_list,
  lone_mode,
  modes_of,
  count_item,
  count_list,
  lone_count,
  counts_of,
}
use Rattle.reading_laws.specs.Moved.{move_name, move_item, move_operand, move_arg, same, Moves}
use Rattle.reading_laws.proofs.Bind.{stands, falls, bind_moved, cond_moved}

-- an argument's own place
pub place_moved : (to : ℕ → ℕ) (a : Arg) → place_of (move_arg to a) ≡ to (place_of a)
unfolding place_of
place_moved to (star o) = refl
place_moved to (plus o) = refl
place_moved to (symbol o n) = refl
place_moved to (single i) = refl
place_moved to (range o a b) = refl
place_moved to (array o is) = refl

-- a count is its spelling's, and a refusal is at its place
count_at_moved : (to : ℕ → ℕ) (limit : ℕ) (n : Name) → Moves to same (count_at limit (move_name to n)) (count_at limit n)
unfolding count_at
count_at_moved to limit n = go (count_of limit n.spelling)
  where
    go : (c : Option·rust ℕ) → Moves to same (counted (move_name to n) c) (counted n c)
    go (Some v) = stands refl
    go None = falls

-- a range is refused at one of its ends, or stands where the left one stands
pub range_moved :
    (to : ℕ → ℕ) (limit : ℕ) (low high : Name)
    → Moves to (move_arg to) (range_of limit (move_name to low) (move_name to high)) (range_of limit low high)
unfolding range_of
range_moved to limit low high =
    bind_moved _ (count_at_moved to limit low) λ a.
    bind_moved _ (count_at_moved to limit high) λ b.
    cond_moved (ltb b a) falls (stands refl)

-- names
pub items_moved : (to : ℕ → ℕ) (a : Arg) → Moves to (map (move_item to)) (items_of (move_arg to a)) (items_of a)
unfolding items_of
items_moved to (star o) = falls
items_moved to (plus o) = falls
items_moved to (symbol o n) = falls
items_moved to (single i) = stands refl
items_moved to (range o a b) = falls
items_moved to (array o []) = falls
items_moved to (array o (i ∷ is)) = stands refl

-- the names of moved items
names_moved : (to : ℕ → ℕ) (is : List Item) → map (λ x. x.name) (map (move_item to) is) ≡ map (move_name to) (map (λ x. x.name) is)
names_moved to [] = refl
names_moved to (i ∷ is) = ap (λ (ns : List Name). move_name to i.name ∷ ns) (names_moved to is)

-- parameters or covariates
pub operand_moved : (to : ℕ → ℕ) (a : Arg) → Moves to (move_operand to) (operand_of (move_arg to a)) (operand_of a)
unfolding operand_of
operand_moved to (star o) = stands refl
operand_moved to (plus o) = falls
operand_moved to (symbol o n) = stands refl
operand_moved to (single i) = stands refl
operand_moved to (range o a b) = falls
operand_moved to (array o []) = falls
operand_moved to (array o (i ∷ is)) = stands (simp (names_moved to is))

-- a mode is its spelling's, and a refusal is at its place
mode_moved : (to : ℕ → ℕ) (f : Family) (n : Name) → Moves to same (mode_of f (move_name to n)) (mode_of f n)
mode_moved to f n = go (find n.spelling (labels_of f))
  where
    go : (i : Option ℕ) → Moves to same (mode_at (move_name to n) i) (mode_at n i)
    go none = falls
    go (some i) = stands refl

mode_list_moved : (to : ℕ → ℕ) (f : Family) (is : List Item) → Moves to same (mode_list f (map (move_item to) is)) (mode_list f is)
unfolding mode_list
mode_list_moved to f [] = stands refl
mode_list_moved to f (i ∷ is) =
    bind_moved _ (mode_moved to f i.name) λ m. bind_moved _ (mode_list_moved to f is) λ ms. stands refl

lone_mode_moved : (to : ℕ → ℕ) (f : Family) (k : Kind) (n : Name) → Moves to same (lone_mode f k (move_name to n)) (lone_mode f k n)
lone_mode_moved to f a_word n = bind_moved _ (mode_moved to f n) λ m. stands refl
lone_mode_moved to f a_number n = falls

-- modes have no place
pub modes_moved : (to : ℕ → ℕ) (f : Family) (a : Arg) → Moves to same (modes_of f (move_arg to a)) (modes_of f a)
unfolding modes_of
modes_moved to f (star o) = stands refl
modes_moved to f (plus o) = falls
modes_moved to f (symbol o n) = falls
modes_moved to f (single i) = lone_mode_moved to f i.kind i.name
modes_moved to f (range o a b) = falls
modes_moved to f (array o []) = falls
modes_moved to f (array o (i ∷ is)) = bind_moved _ (mode_list_moved to f (i ∷ is)) λ ms. stands refl

count_item_moved :
    (to : ℕ → ℕ) (limit o : ℕ) (k : Kind) (n : Name) → Moves to same (count_item limit (to o) k (move_name to n)) (count_item limit o k n)
count_item_moved to limit o a_word n = falls
count_item_moved to limit o a_number n = count_at_moved to limit n

count_list_moved :
    (to : ℕ → ℕ) (limit o : ℕ) (is : List Item) → Moves to same (count_list limit (to o) (map (move_item to) is)) (count_list limit o is)
unfolding count_list
count_list_moved to limit o [] = stands refl
count_list_moved to limit o (i ∷ is) =
    bind_moved _ (count_item_moved to limit o i.kind i.name) λ c. bind_moved _ (count_list_moved to limit o is) λ cs. stands refl

lone_count_moved : (to : ℕ → ℕ) (limit : ℕ) (k : Kind) (n : Name) → Moves to same (lone_count limit k (move_name to n)) (lone_count limit k n)
lone_count_moved to limit a_word n = falls
lone_count_moved to limit a_number n = bind_moved _ (count_at_moved to limit n) λ c. stands refl

-- counts have no place
pub counts_moved : (to : ℕ → ℕ) (limit : ℕ) (a : Arg) → Moves to same (counts_of limit (move_arg to a)) (counts_of limit a)
unfolding counts_of
counts_moved to limit (star o) = falls
counts_moved to limit (plus o) = falls
counts_moved to limit (symbol o n) = falls
counts_moved to limit (single i) = lone_count_moved to limit i.kind i.name
counts_moved to limit (range o a b) = stands refl
counts_moved to limit (array o []) = falls
counts_moved to limit (array o (i ∷ is)) = bind_moved _ (count_list_moved to limit o (i ∷ is)) λ cs. stands refl
