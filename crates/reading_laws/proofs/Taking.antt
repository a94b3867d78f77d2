-- What each kind of argument is taken for.
-- Assumes nothing.
use Rattle.std.specs.Prelude.{Some, None}
use Prim.Native.Nat.{ℕ}
use mathlib.Core.Path.{◌≡◌, refl}
use mathlib.Core.Bool.{Bool, true, false, cond, ◌&&◌}
use mathlib.Core.List.{List, [], ◌∷◌}
use mathlib.Core.Option.{Option, some, none}
use borrow.Author.Tests.{ltb-false}
use lib.Dec.{leb, ltb}
use Rattle.counts.specs.Count.{whole, value, count_of}
use Rattle.labels.specs.declared.Family.{Family}
use Rattle.labels.specs.Word.{find}
use Rattle.labels.specs.Label.{labels_of}
use Rattle.reading.specs.Statement.{Name, Kind, a_word, a_number, Item}
use Rattle.reading.specs.Parts.{modes_part, counts_part, operand_part, name_part, values_part}
use Rattle.reading.specs.Answer.{accepted, backwards}
use Rattle.reading.specs.Argument.{
  Arg,
  star,
  plus,
  symbol,
  single,
  range,
  array,
  counted,
  count_at,
  range_of,
  items_of,
  operand_of,
  mode_at,
  mode_of,
  mode_list,
  lone_mode,
  modes_of,
  count_item,
  count_list,
  lone_count,
  counts_of,
}
use Rattle.reading.specs.Feature.{alone, name_of}
use Rattle.reading_laws.specs.WellFormed.{spelled_as, well_arg, Gives, given, nothing}
use Rattle.reading_laws.specs.Taken.{
  IsMode,
  IsCount,
  a_count,
  EachTaken,
  none_taken,
  one_taken,
  RangeTaken,
  from_to,
  item_of,
  TakenAs,
  every_mode,
  one_mode,
  some_modes,
  one_count,
  a_range,
  some_counts,
  every_name,
  a_symbol,
  one_name,
  some_names,
  a_name,
  one_value,
  some_values,
}
use Rattle.text.proofs.Tests.{both}
use Rattle.reading_laws.proofs.Giving.{gives_bind}

module _ (limit : ℕ) where
  -- modes
  mode_taken : (f : Family) (n : Name) → Gives (IsMode f n) (mode_of f n)
  mode_taken f n = go (find n.spelling (labels_of f)) refl
    where
      go : (r : Option ℕ) → find n.spelling (labels_of f) ≡ r → Gives (IsMode f n) (mode_at n r)
      go none e = nothing refl
      go (some m) e = given e

  mode_list-taken : (f : Family) (is : List Item) → Gives (EachTaken (IsMode f) is) (mode_list f is)
  unfolding mode_list
  mode_list-taken f [] = given none_taken
  mode_list-taken f (i ∷ is) =
      gives_bind (mode_taken f i.name) λ m h. gives_bind (mode_list-taken f is) λ ms t. given (one_taken h t)

  lone_mode-taken : (f : Family) (k : Kind) (n : Name) → Gives (λ ms. TakenAs limit (single (item_of k n)) (modes_part f ms)) (lone_mode f k n)
  lone_mode-taken f a_word n = gives_bind (mode_taken f n) λ m e. given (one_mode e)
  lone_mode-taken f a_number n = nothing refl

  pub modes-taken : (f : Family) (a : Arg) → Gives (λ ms. TakenAs limit a (modes_part f ms)) (modes_of f a)
  unfolding modes_of
  modes-taken f (star o) = given every_mode
  modes-taken f (plus o) = nothing refl
  modes-taken f (symbol o n) = nothing refl
  modes-taken f (single i) = lone_mode-taken f i.kind i.name
  modes-taken f (range o a b) = nothing refl
  modes-taken f (array o []) = nothing refl
  modes-taken f (array o (i ∷ is)) = gives_bind (mode_list-taken f (i ∷ is)) λ ms e. given (some_modes e)

  -- counts
  count-taken : (n : Name) → Gives (IsCount limit n) (count_at limit n)
  unfolding count_at count_of
  count-taken n = go (whole n.spelling) (leb (value n.spelling) 4294967295) (leb (value n.spelling) limit) refl refl refl
    where
      go :
          (a b c : Bool)
          → whole n.spelling ≡ a
          → leb (value n.spelling) 4294967295 ≡ b
          → leb (value n.spelling) limit ≡ c
          → Gives (IsCount limit n) (counted n (cond (a && b && c) (Some (value n.spelling)) None))
      go false b c d e h = nothing refl
      go true false c d e h = nothing refl
      go true true false d e h = nothing refl
      go true true true d e h = given (a_count d (both e h))

  pub range-taken : (low high : Name) → Gives (RangeTaken limit low high) (range_of limit low high)
  unfolding range_of
  range-taken low high = gives_bind (count-taken low) λ a e. gives_bind (count-taken high) λ b h. go a b e h (ltb b a) refl
    where
      go :
          (a b : ℕ)
          → IsCount limit low a
          → IsCount limit high b
          → (t : Bool)
          → ltb b a ≡ t
          → Gives (RangeTaken limit low high) (cond t (backwards low.place) (accepted (range low.place a b)))
      go a b e h true l = nothing refl
      go a b e h false l = given (from_to e h (ltb-false b a l))

  count_item-taken : (o : ℕ) (k : Kind) (n : Name) → Gives (IsCount limit n) (count_item limit o k n)
  count_item-taken o a_word n = nothing refl
  count_item-taken o a_number n = count-taken n

  count_list-taken : (o : ℕ) (is : List Item) → Gives (EachTaken (IsCount limit) is) (count_list limit o is)
  unfolding count_list
  count_list-taken o [] = given none_taken
  count_list-taken o (i ∷ is) =
      gives_bind (count_item-taken o i.kind i.name) λ c h. gives_bind (count_list-taken o is) λ cs t. given (one_taken h t)

  lone_count-taken : (k : Kind) (n : Name) → Gives (λ c. TakenAs limit (single (item_of k n)) (counts_part c)) (lone_count limit k n)
  lone_count-taken a_word n = nothing refl
  lone_count-taken a_number n = gives_bind (count-taken n) λ v e. given (one_count e)

  pub counts-taken : (a : Arg) → Gives (λ c. TakenAs limit a (counts_part c)) (counts_of limit a)
  unfolding counts_of
  counts-taken (star o) = nothing refl
  counts-taken (plus o) = nothing refl
  counts-taken (symbol o n) = nothing refl
  counts-taken (single i) = lone_count-taken i.kind i.name
  counts-taken (range o a b) = given a_range
  counts-taken (array o []) = nothing refl
  counts-taken (array o (i ∷ is)) = gives_bind (count_list-taken o (i ∷ is)) λ vs e. given (some_counts e)

  -- parameters or covariates, and the values of a LET
  pub operand_taken : (a : Arg) → Gives (λ p. TakenAs limit a (operand_part p)) (operand_of a)
  unfolding operand_of
  operand_taken (star o) = given every_name
  operand_taken (plus o) = nothing refl
  operand_taken (symbol o n) = given a_symbol
  operand_taken (single i) = given one_name
  operand_taken (range o a b) = nothing refl
  operand_taken (array o []) = nothing refl
  operand_taken (array o (i ∷ is)) = given some_names

  pub values-taken : (a : Arg) → Gives (λ is. TakenAs limit a (values_part is)) (items_of a)
  unfolding items_of
  values-taken (star o) = nothing refl
  values-taken (plus o) = nothing refl
  values-taken (symbol o n) = nothing refl
  values-taken (single i) = given one_value
  values-taken (range o a b) = nothing refl
  values-taken (array o []) = nothing refl
  values-taken (array o (i ∷ is)) = given some_values

  -- a name of a kind
  abbrev pub Alone : Kind → Arg → Name → Type 0
  Alone k a n = TakenAs limit a (name_part n) × (well_arg limit a ≡ true → spelled_as k n ≡ true)

  alone-taken : (k j : Kind) (n : Name) → Gives (Alone k (single (item_of j n))) (alone k j n)
  alone-taken a_word a_word n = given (a_name, λ w. w)
  alone-taken a_word a_number n = nothing refl
  alone-taken a_number a_word n = nothing refl
  alone-taken a_number a_number n = given (a_name, λ w. w)

  pub name-taken : (k : Kind) (a : Arg) → Gives (Alone k a) (name_of k a)
  unfolding name_of
  name-taken k (star o) = nothing refl
  name-taken k (plus o) = nothing refl
  name-taken k (symbol o n) = nothing refl
  name-taken k (single i) = alone-taken k i.kind i.name
  name-taken k (range o a b) = nothing refl
  name-taken k (array o is) = nothing refl
