-- How the arguments of a feature, and of a LET, are taken for its parts: each for one, in their order. At the end a part may have no
-- argument: one that may be left out, and the operator `*`.
use Rattle.std.specs.Prelude.{ℕ, ◌≤◌, ◌≡◌, Bool, true, List, [], ◌∷◌, map}
use Rattle.std.proofs.Math.Option.{Option, some, none}
use Rattle.text.specs.Lists.{all}
use Rattle.counts.specs.Count.{whole, value}
use Rattle.labels.specs.declared.Family.{Family}
use Rattle.labels.specs.Word.{find}
use Rattle.labels.specs.Label.{labels_of}
use Rattle.reading.specs.Statement.{
  Name,
  Kind,
  a_word,
  a_number,
  Item,
  all_modes,
  modes,
  count,
  counts,
  everyone,
  names,
  multiply,
  add,
  Feature,
}
use Rattle.reading.specs.Statement as statement
use Rattle.reading.specs.Parts.{
  Part,
  modes_part,
  counts_part,
  estimated_part,
  operand_part,
  name_part,
  values_part,
  operator_part,
  omitted,
  feature_parts,
}
use Rattle.reading.specs.Argument.{Arg, star, plus, symbol, single, range, array, firsts}
use Rattle.reading.specs.Feature.{is_n}
use Rattle.reading_laws.specs.WellFormed.{within_limit, well_together, well_arg}

-- a word that is a mode of a family, and a number that is a count under a limit
abbrev pub IsMode : Family → Name → ℕ → Type 0
IsMode f n m = find n.spelling (labels_of f) ≡ some m

pub data IsCount (limit : ℕ) (n : Name) : ℕ → Type 0 where
  a_count : whole n.spelling ≡ true → within_limit limit (value n.spelling) ≡ true → IsCount limit n (value n.spelling)

-- items and what they are taken for, one by one
pub data EachTaken (R : Name → ℕ → Type 0) : List Item → List ℕ → Type 0 where
  none_taken : EachTaken R [] []
  one_taken : {i : Item} {is : List Item} {m : ℕ} {ms : List ℕ} → R i.name m → EachTaken R is ms → EachTaken R (i ∷ is) (m ∷ ms)

-- the ends of a range, the left one no greater than the right
pub data RangeTaken (limit : ℕ) (low high : Name) : Arg → Type 0 where
  from_to : {a b : ℕ} → IsCount limit low a → IsCount limit high b → a ≤ b → RangeTaken limit low high (range low.place a b)

abbrev pub item_of : Kind → Name → Item
item_of k n = record { kind = k; name = n }

pub data TakenAs (limit : ℕ) : Arg → Part → Type 0 where
  -- modes
  every_mode : {f : Family} {o : ℕ} → TakenAs limit (star o) (modes_part f all_modes)
  one_mode : {f : Family} {n : Name} {m : ℕ} → IsMode f n m → TakenAs limit (single (item_of a_word n)) (modes_part f (modes (m ∷ [])))
  some_modes :
      {f : Family} {o : ℕ} {i : Item} {is : List Item} {ms : List ℕ}
      → EachTaken (IsMode f) (i ∷ is) ms
      → TakenAs limit (array o (i ∷ is)) (modes_part f (modes (firsts ms)))
  -- counts, and N
  one_count : {n : Name} {v : ℕ} → IsCount limit n v → TakenAs limit (single (item_of a_number n)) (counts_part (count v))
  a_range : {o a b : ℕ} → TakenAs limit (range o a b) (counts_part (statement.range a b))
  some_counts :
      {o : ℕ} {i : Item} {is : List Item} {vs : List ℕ}
      → EachTaken (IsCount limit) (i ∷ is) vs
      → TakenAs limit (array o (i ∷ is)) (counts_part (counts vs))
  an_n : {a : Arg} → is_n a ≡ true → TakenAs limit a estimated_part
  -- parameters or covariates
  every_name : {o : ℕ} → TakenAs limit (star o) (operand_part everyone)
  a_symbol : {o : ℕ} {n : Name} → TakenAs limit (symbol o n) (operand_part (statement.symbol n))
  one_name : {i : Item} → TakenAs limit (single i) (operand_part (names (i.name ∷ [])))
  some_names : {o : ℕ} {i : Item} {is : List Item} → TakenAs limit (array o (i ∷ is)) (operand_part (names (map (λ x. x.name) (i ∷ is))))
  -- a name alone, and the values of a LET
  a_name : {i : Item} → TakenAs limit (single i) (name_part i.name)
  one_value : {i : Item} → TakenAs limit (single i) (values_part (i ∷ []))
  some_values : {o : ℕ} {i : Item} {is : List Item} → TakenAs limit (array o (i ∷ is)) (values_part (i ∷ is))

-- those after the first
pub data Others (limit : ℕ) : List Arg → List Part → Type 0 where
  over : Others limit [] []
  next : {a : Arg} {p : Part} {bs : List Arg} {ps : List Part} → TakenAs limit a p → Others limit bs ps → Others limit (a ∷ bs) (p ∷ ps)
  left_out : Others limit [] (omitted ∷ [])
  multiplied : {o : ℕ} → Others limit (star o ∷ []) (operator_part multiply ∷ [])
  meant : Others limit [] (operator_part multiply ∷ [])
  added : {o : ℕ} → Others limit (plus o ∷ []) (operator_part add ∷ [])

pub data Taken (limit : ℕ) : List Arg → List Part → Type 0 where
  first : {a : Arg} {p : Part} {bs : List Arg} {ps : List Part} → TakenAs limit a p → Others limit bs ps → Taken limit (a ∷ bs) (p ∷ ps)

-- an argument that may be left out, as a list
abbrev pub maybe : Option Arg → List Arg
maybe none = []
maybe (some a) = a ∷ []

-- A feature of the keyword at a place, with its `?` and its arguments.
pub record Built (limit place : ℕ) (m : Bool) (args : List Arg) (f : Feature) : Type 0 where
  pub keyword : (feature_parts f).keyword ≡ place
  pub optional : (feature_parts f).optional ≡ m
  pub arguments : Taken limit args (feature_parts f).arguments
  pub together : all (well_arg limit) args ≡ true → well_together f ≡ true
