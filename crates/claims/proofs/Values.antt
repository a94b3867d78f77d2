-- The exported Statement gives equal values of two statements, each pair replaced by the bytes that it points to, exactly where the
-- statements are equal without their places.
-- Assumes nothing.
use Prim.Native.Nat.{ℕ, zero, suc}
use mathlib.Core.Path.{◌≡◌, refl, ◌∙◌, ap, ap₂, sym}
use mathlib.Core.Bool.{Bool, true, false, cond, false≢true}
use mathlib.Core.List.{List, [], ◌∷◌, ◌++◌, map, map-id}
use mathlib.Core.Option
use mathlib.Core.Option.{Option, some, none}
use borrow.Author.Tests.{eqb-true, eq-eqb}
use lib.Dec.{eqb}
use lib.ListN.{length, get_or, take, drop}
use Rattle.text.specs.Lists.{gather}
use Rattle.labels.specs.declared.Family.{Family}
use Rattle.reading.specs.Statement.{
  Name,
  Kind,
  a_word,
  a_number,
  Item,
  Modes,
  all_modes,
  modes,
  Counts,
  count,
  range,
  counts,
  TransitCounts,
  estimated,
  counted,
  Operand,
  everyone,
  symbol,
  names,
  Operator,
  multiply,
  add,
  Absorption,
  Elimination,
  Peripherals,
  Transits,
  Lagtime,
  Covariate,
  Allometry,
  DirectEffect,
  EffectComp,
  IndirectEffect,
  Metabolite,
  Iiv,
  Iov,
  Covariance,
  Statement,
  Let,
  feature,
}
use Rattle.reading.specs.Parts.{
  Part,
  modes_part,
  counts_part,
  estimated_part,
  operand_part,
  name_part,
  values_part,
  operator_part,
  omitted,
  transits_part,
  some_part,
  feature_parts,
  parts_of,
}
use Rattle.reading_laws.specs.Moved.{move_name, move_item, move_operand, move_part}
use Rattle.reading_laws.specs.Spelled.{end_of, item_names, part_names, parts_names, statement_names, StandIn, no_name, one_before}
use Rattle.reading_laws.proofs.Among.{among-all, among_first, among-last}
use Rattle.reading_laws.proofs.Spelled.{stand_some}
use Rattle.reading_laws.proofs.Parts.{parts_moved}
use Rattle.canonical.specs.Numbers.{pairs_numbers, kind_number, items_numbers, part_numbers, parts_numbers, head_numbers, numbers_of}
use Rattle.canonical_laws.specs.Forgotten.{nowhere, forget}
use Rattle.resolving.specs.Effects.{optional_number}
use Rattle.resolving.specs.Ground.{is_optional}
use Rattle.resolving_laws.proofs.EffectLaws.{mark_back}
use Rattle.resolving_laws.proofs.Entries.{bytes-equal, bytes_self}
use Rattle.resolving_laws.proofs.SameLaws.{list_equal, list_self}
use Rattle.claims.specs.Values.{
  Entry,
  as_number,
  as_bytes,
  Value,
  a_pair,
  these,
  repeated,
  replaced,
  value_in,
  same_entry,
  same_value,
}
use Rattle.claims.specs.Values as values

-- The value of a statement, by its parts.

abbrev name_entry : Name → Entry
name_entry n = as_bytes n.spelling

abbrev modes_entries : Modes → Value
modes_entries all_modes = as_number 0 ∷ []
modes_entries (modes ms) = as_number 1 ∷ as_number (length ms) ∷ map as_number ms

abbrev counts_entries : Counts → Value
counts_entries (count v) = as_number 2 ∷ as_number v ∷ []
counts_entries (range a b) = as_number 3 ∷ as_number a ∷ as_number b ∷ []
counts_entries (counts vs) = as_number 4 ∷ as_number (length vs) ∷ map as_number vs

abbrev operand_entries : Operand → Value
operand_entries everyone = as_number 0 ∷ []
operand_entries (symbol n) = as_number 6 ∷ name_entry n ∷ []
operand_entries (names ns) = as_number 7 ∷ as_number (length ns) ∷ map name_entry ns

abbrev items_entries : List Item → Value
items_entries [] = []
items_entries (i ∷ is) = as_number (kind_number i.kind) ∷ name_entry i.name ∷ items_entries is

abbrev operator_entries : Operator → Value
operator_entries multiply = as_number 10 ∷ []
operator_entries add = as_number 11 ∷ []

abbrev part_entries : Part → Value
part_entries (modes_part f ms) = modes_entries ms
part_entries (counts_part c) = counts_entries c
part_entries estimated_part = as_number 5 ∷ []
part_entries (operand_part p) = operand_entries p
part_entries (name_part n) = as_number 8 ∷ name_entry n ∷ []
part_entries (values_part is) = as_number 12 ∷ as_number (length is) ∷ items_entries is
part_entries (operator_part op) = operator_entries op
part_entries omitted = as_number 9 ∷ []

abbrev parts_entries : List Part → Value
parts_entries ps = gather part_entries ps

abbrev pub value_of : Statement → Value
value_of s = as_number (parts_of s).keyword ∷ as_number (optional_number (parts_of s).optional) ∷ parts_entries (parts_of s).arguments

-- It is what the numbers come to in the text: pairs point to the bytes of the names.

module _ (text : List ℕ) where
  -- what comes behind an argument
  abbrev behind : List ℕ → Value
  behind ns = replaced text (these []) ns

  numbers_stay : (ms ns : List ℕ) → replaced text (these (repeated (length ms) (values.a_number ∷ []))) (ms ++ ns) ≡ map as_number ms ++ behind ns
  unfolding replaced
  numbers_stay [] ns = refl
  numbers_stay (m ∷ ms) ns = ap (λ (v : Value). as_number m ∷ v) (numbers_stay ms ns)

  pairs_spelled :
      {o : ℕ} {xs : List Name} → StandIn text o xs → (ns : List ℕ)
      → replaced text (these (repeated (length xs) (a_pair ∷ []))) (pairs_numbers xs ++ ns) ≡ map name_entry xs ++ behind ns
  unfolding replaced
  pairs_spelled no_name ns = refl
  pairs_spelled (one_before l s r) ns = ap₂ (λ (b : List ℕ) (v : Value). as_bytes b ∷ v) s.same (pairs_spelled r ns)

  items_spelled :
      {o : ℕ} (is : List Item) → StandIn text o (item_names is) → (ns : List ℕ)
      → replaced text (these (repeated (length is) (values.a_number ∷ a_pair ∷ []))) (items_numbers is ++ ns) ≡ items_entries is ++ behind ns
  unfolding replaced
  items_spelled [] no_name ns = refl
  items_spelled {o = o} (i ∷ is) (one_before l s r) ns =
      ap₂ (λ (b : List ℕ) (v : Value). as_number (kind_number i.kind) ∷ as_bytes b ∷ v) s.same (items_spelled {o = end_of i.name} is r ns)

  part-spelled : {o : ℕ} (p : Part) → StandIn text o (part_names p) → (ns : List ℕ) → behind (part_numbers p ++ ns) ≡ part_entries p ++ behind ns
  unfolding replaced
  part-spelled (modes_part f all_modes) h ns = refl
  part-spelled (modes_part f (modes ms)) h ns = ap (λ (v : Value). as_number 1 ∷ as_number (length ms) ∷ v) (numbers_stay ms ns)
  part-spelled (counts_part (count v)) h ns = refl
  part-spelled (counts_part (range a b)) h ns = refl
  part-spelled (counts_part (counts vs)) h ns = ap (λ (v : Value). as_number 4 ∷ as_number (length vs) ∷ v) (numbers_stay vs ns)
  part-spelled estimated_part h ns = refl
  part-spelled (operand_part everyone) h ns = refl
  part-spelled (operand_part (symbol n)) (one_before l s r) ns = ap (λ (b : List ℕ). as_number 6 ∷ as_bytes b ∷ behind ns) s.same
  part-spelled (operand_part (names xs)) h ns = ap (λ (v : Value). as_number 7 ∷ as_number (length xs) ∷ v) (pairs_spelled h ns)
  part-spelled (name_part n) (one_before l s r) ns = ap (λ (b : List ℕ). as_number 8 ∷ as_bytes b ∷ behind ns) s.same
  part-spelled (values_part is) h ns = ap (λ (v : Value). as_number 12 ∷ as_number (length is) ∷ v) (items_spelled is h ns)
  part-spelled (operator_part multiply) h ns = refl
  part-spelled (operator_part add) h ns = refl
  part-spelled omitted h ns = refl

  parts_spelled : {o : ℕ} (ps : List Part) → StandIn text o (parts_names ps) → behind (parts_numbers ps) ≡ parts_entries ps
  unfolding replaced
  parts_spelled [] h = refl
  parts_spelled (p ∷ ps) h =
      part-spelled p (stand_some (among_first (part_names p) (parts_names ps)) h) (parts_numbers ps)
      ∙ ap (λ (v : Value). part_entries p ++ v) (parts_spelled ps (stand_some (among-last (part_names p) (among-all (parts_names ps))) h))

  head_stays : (k : ℕ) (m : Bool) (ns : List ℕ) → value_in text (head_numbers k m ++ ns) ≡ as_number k ∷ as_number (optional_number m) ∷ behind ns
  unfolding replaced
  head_stays k true ns = refl
  head_stays k false ns = refl

  pub value-spelled : {o : ℕ} (s : Statement) → StandIn text o (statement_names s) → value_in text (numbers_of s) ≡ value_of s
  unfolding numbers_of
  value-spelled s h =
      let p = parts_of s in
      head_stays p.keyword p.optional (parts_numbers p.arguments)
      ∙ ap
      (λ (v : Value). as_number p.keyword ∷ as_number (optional_number p.optional) ∷ v)
      (parts_spelled p.arguments h)

-- A value does not depend on places.

map_moved : (xs : List Name) → map name_entry (map (move_name nowhere) xs) ≡ map name_entry xs
map_moved [] = refl
map_moved (x ∷ xs) = ap (λ (v : Value). name_entry x ∷ v) (map_moved xs)

many_moved : {A B : Type 0} (f : A → B) (xs : List A) → length (map f xs) ≡ length xs
many_moved f [] = refl
many_moved f (x ∷ xs) = ap suc (many_moved f xs)

items_moved : (is : List Item) → items_entries (map (move_item nowhere) is) ≡ items_entries is
items_moved [] = refl
items_moved (i ∷ is) = ap (λ (v : Value). as_number (kind_number i.kind) ∷ name_entry i.name ∷ v) (items_moved is)

part_moved : (p : Part) → part_entries (move_part nowhere p) ≡ part_entries p
part_moved (modes_part f ms) = refl
part_moved (counts_part c) = refl
part_moved estimated_part = refl
part_moved (operand_part everyone) = refl
part_moved (operand_part (symbol n)) = refl
part_moved (operand_part (names xs)) =
    ap₂ (λ (n : ℕ) (v : Value). as_number 7 ∷ as_number n ∷ v) (many_moved (move_name nowhere) xs) (map_moved xs)
part_moved (name_part n) = refl
part_moved (values_part is) = ap₂ (λ (n : ℕ) (v : Value). as_number 12 ∷ as_number n ∷ v) (many_moved (move_item nowhere) is) (items_moved is)
part_moved (operator_part op) = refl
part_moved omitted = refl

parts_entries_moved : (ps : List Part) → parts_entries (map (move_part nowhere) ps) ≡ parts_entries ps
parts_entries_moved [] = refl
parts_entries_moved (p ∷ ps) = ap₂ ◌++◌ (part_moved p) (parts_entries_moved ps)

pub value_forgets : (s : Statement) → value_of (forget s) ≡ value_of s
value_forgets s =
    let p = parts_of s in
    rw (parts_moved nowhere s) (ap (λ (v : Value). as_number p.keyword ∷ as_number (optional_number p.optional) ∷ v) (parts_entries_moved p.arguments))

-- A statement without its places is told by its value. Of the entries from an argument on: the argument, and what comes behind it.

number_in : Entry → ℕ
number_in (as_number n) = n
number_in (as_bytes b) = 0

name_in : Entry → Name
name_in (as_number n) = record { place = 0; spelling = [] }
name_in (as_bytes b) = record { place = 0; spelling = b }

entry_at : ℕ → Value → Entry
entry_at i v = get_or v i (as_number 0)

-- its kind, and how many entries it has
kind_in : Value → ℕ
kind_in v = number_in (entry_at 0 v)

many_in : Value → ℕ
many_in v = number_in (entry_at 1 v)

modes_from : Value → Modes × Value
modes_from v =
    cond (eqb (kind_in v) 0)
    (all_modes, drop 1 v)
    (modes (map number_in (take (many_in v) (drop 2 v))), drop (many_in v) (drop 2 v))

counts_from : Value → Counts × Value
counts_from v =
    cond (eqb (kind_in v) 2) (count (many_in v), drop 2 v)
    (cond (eqb (kind_in v) 3) (range (many_in v) (number_in (entry_at 2 v)), drop 3 v)
    (counts (map number_in (take (many_in v) (drop 2 v))), drop (many_in v) (drop 2 v)))

transits_from : Value → TransitCounts × Value
transits_from v = cond (eqb (kind_in v) 5) (estimated, drop 1 v) (counted (counts_from v).0, (counts_from v).1)

operand_from : Value → Operand × Value
operand_from v =
    cond (eqb (kind_in v) 0) (everyone, drop 1 v)
    (cond (eqb (kind_in v) 6) (symbol (name_in (entry_at 1 v)), drop 2 v)
    (names (map name_in (take (many_in v) (drop 2 v))), drop (many_in v) (drop 2 v)))

operator_from : Value → Operator
operator_from v = cond (eqb (kind_in v) 10) multiply add

name_from : Value → Name × Value
name_from v = (name_in (entry_at 1 v), drop 2 v)

-- one that may be left out, and is the last
some_from : {A : Type 0} → (Value → A × Value) → Value → Option A
some_from from v = cond (eqb (kind_in v) 9) none (some (from v).0)

items_from : ℕ → Value → List Item
items_from zero v = []
items_from (suc n) v = record { kind = cond (eqb (kind_in v) 0) a_word a_number; name = name_in (entry_at 1 v) } ∷ items_from n (drop 2 v)

pub statement_from : Value → Statement
statement_from v =
    let k = kind_in v in
    let o = is_optional (many_in v) in
    let a = drop 2 v in
    cond (eqb k 0) (feature (Absorption (modes_from a).0))
    (cond (eqb k 1) (feature (Elimination (modes_from a).0))
    (cond (eqb k 2) (feature (Peripherals (counts_from a).0 (some_from modes_from (counts_from a).1)))
    (cond (eqb k 3) (feature (Transits (transits_from a).0 (some_from modes_from (transits_from a).1)))
    (cond (eqb k 4) (feature (Lagtime (modes_from a).0))
    (cond (eqb k 5)
    (feature
    (Covariate o
    (operand_from a).0
    (operand_from (operand_from a).1).0
    (modes_from (operand_from (operand_from a).1).1).0
    (operator_from (modes_from (operand_from (operand_from a).1).1).1)))
    (cond (eqb k 6) (feature (Allometry (name_from a).0 (some_from name_from (name_from a).1)))
    (cond (eqb k 7) (feature (DirectEffect (modes_from a).0))
    (cond (eqb k 8) (feature (EffectComp (modes_from a).0))
    (cond (eqb k 9) (feature (IndirectEffect (modes_from a).0 (modes_from (modes_from a).1).0))
    (cond (eqb k 10) (feature (Metabolite (modes_from a).0))
    (cond (eqb k 11) (feature (Iiv o (operand_from a).0 (modes_from (operand_from a).1).0))
    (cond (eqb k 12) (feature (Iov o (operand_from a).0 (modes_from (operand_from a).1).0))
    (cond (eqb k 13) (feature (Covariance o (modes_from a).0 (operand_from (modes_from a).1).0))
    (Let (name_from a).0 (items_from (many_in (name_from a).1) (drop 2 (name_from a).1))))))))))))))))

-- a list, and what comes behind it
list_again :
    {A B : Type 0} (to : A → Entry) (from : Entry → B) (as-it-is : A → B) → ((x : A) → from (to x) ≡ as-it-is x)
    → (xs : List A) (v : Value)
    → (map from (take (length xs) (map to xs ++ v)) ≡ map as-it-is xs) × (drop (length xs) (map to xs ++ v) ≡ v)
list_again to from as-it-is e [] v = (refl, refl)
list_again to from as-it-is e (x ∷ xs) v = let h = list_again to from as-it-is e xs v in (ap₂ ◌∷◌ (e x) h.0, h.1)

-- Each argument is what it was, without its places.

modes-again : (ms : Modes) (v : Value) → modes_from (modes_entries ms ++ v) ≡ (ms, v)
unfolding modes_from kind_in many_in entry_at number_in
modes-again all_modes v = refl
modes-again (modes ms) v =
    let h = list_again as_number number_in (λ n. n) (λ n. refl) ms v in
    ap₂ (λ (l : List ℕ) (w : Value). (modes l, w)) (h.0 ∙ map-id ms) h.1

some_modes-again : (f : Family) (o : Option Modes) (v : Value) → some_from modes_from (part_entries (some_part (modes_part f) o) ++ v) ≡ o
unfolding some_from kind_in entry_at number_in
some_modes-again f none v = refl
some_modes-again f (some all_modes) v = ap (λ (x : Modes × Value). some x.0) (modes-again all_modes v)
some_modes-again f (some (modes ms)) v = ap (λ (x : Modes × Value). some x.0) (modes-again (modes ms) v)

counts-again : (c : Counts) (v : Value) → counts_from (counts_entries c ++ v) ≡ (c, v)
unfolding counts_from kind_in many_in entry_at number_in
counts-again (count n) v = refl
counts-again (range a b) v = refl
counts-again (counts ns) v =
    let h = list_again as_number number_in (λ n. n) (λ n. refl) ns v in
    ap₂ (λ (l : List ℕ) (w : Value). (counts l, w)) (h.0 ∙ map-id ns) h.1

transits-again : (c : TransitCounts) (v : Value) → transits_from (part_entries (transits_part c) ++ v) ≡ (c, v)
unfolding transits_from kind_in entry_at number_in
transits-again estimated v = refl
transits-again (counted (count n)) v = ap (λ (x : Counts × Value). (counted x.0, x.1)) (counts-again (count n) v)
transits-again (counted (range a b)) v = ap (λ (x : Counts × Value). (counted x.0, x.1)) (counts-again (range a b) v)
transits-again (counted (counts ns)) v = ap (λ (x : Counts × Value). (counted x.0, x.1)) (counts-again (counts ns) v)

operand_again : (p : Operand) (v : Value) → operand_from (operand_entries p ++ v) ≡ (move_operand nowhere p, v)
unfolding operand_from kind_in many_in entry_at number_in name_in
operand_again everyone v = refl
operand_again (symbol n) v = refl
operand_again (names ns) v =
    let h = list_again name_entry name_in (move_name nowhere) (λ n. refl) ns v in
    ap₂ (λ (l : List Name) (w : Value). (names l, w)) h.0 h.1

operator-again : (op : Operator) (v : Value) → operator_from (operator_entries op ++ v) ≡ op
unfolding operator_from kind_in entry_at number_in
operator-again multiply v = refl
operator-again add v = refl

some_name-again : (o : Option Name) (v : Value) → some_from name_from (part_entries (some_part name_part o) ++ v) ≡ Option.map (move_name nowhere) o
unfolding some_from name_from kind_in entry_at number_in name_in
some_name-again none v = refl
some_name-again (some n) v = refl

kind-again : (k : Kind) → cond (eqb (kind_number k) 0) a_word a_number ≡ k
kind-again a_word = refl
kind-again a_number = refl

items_again : (is : List Item) (v : Value) → items_from (length is) (items_entries is ++ v) ≡ map (move_item nowhere) is
unfolding items_from kind_in entry_at number_in name_in
items_again [] v = refl
items_again (i ∷ is) v =
    ap₂ (λ (k : Kind) (l : List Item). record { kind = k; name = move_name nowhere i.name } ∷ l) (kind-again i.kind) (items_again is v)

pub from_value : (s : Statement) → statement_from (value_of s) ≡ forget s
unfolding statement_from parts_of feature_parts kind_in many_in entry_at number_in name_from name_in
from_value (Let n is) = ap (Let (move_name nowhere n)) (items_again is [])
from_value (feature (Absorption ms)) = simp modes-again
from_value (feature (Elimination ms)) = simp modes-again
from_value (feature (Peripherals c ms)) = simp (counts-again, some_modes-again)
from_value (feature (Transits c ms)) = simp (transits-again, some_modes-again)
from_value (feature (Lagtime ms)) = simp modes-again
from_value (feature (Covariate m ps cs es op)) = simp (mark_back, operand_again, modes-again, operator-again)
from_value (feature (Allometry n r)) = simp some_name-again
from_value (feature (DirectEffect ms)) = simp modes-again
from_value (feature (EffectComp ms)) = simp modes-again
from_value (feature (IndirectEffect ms ps)) = simp modes-again
from_value (feature (Metabolite ms)) = simp modes-again
from_value (feature (Iiv m ps es)) = simp (mark_back, operand_again, modes-again)
from_value (feature (Iov m ps es)) = simp (mark_back, operand_again, modes-again)
from_value (feature (Covariance m ls ps)) = simp (mark_back, operand_again, modes-again)

-- Values are the same exactly where they are equal.

entry-equal : (x y : Entry) → same_entry x y ≡ true → x ≡ y
entry-equal (as_number n) (as_number m) e = ap as_number (eqb-true n m e)
entry-equal (as_number n) (as_bytes b) e = absurd (false≢true e)
entry-equal (as_bytes a) (as_number m) e = absurd (false≢true e)
entry-equal (as_bytes a) (as_bytes b) e = ap as_bytes (bytes-equal a b e)

entry_self : (x : Entry) → same_entry x x ≡ true
entry_self (as_number n) = eq-eqb n n refl
entry_self (as_bytes b) = bytes_self b

pub value-equal : (v w : Value) → same_value v w ≡ true → v ≡ w
value-equal v w e = list_equal same_entry entry-equal v w e

pub value_self : (v : Value) → same_value v v ≡ true
value_self v = list_self same_entry entry_self v
