-- What a well formed argument is taken for is well formed.
-- Assumes nothing.
use Prim.Native.Nat.{ℕ, suc, ◌≤◌}
use native.Mathlib.Omega.{arith}
use mathlib.Core.Path.{◌≡◌, refl, ap}
use mathlib.Core.Bool.{Bool, true, or-true}
use mathlib.Core.List.{List, [], ◌∷◌, map}
use borrow.Author.Tests.{leb-true, lt-ltb, le-leb}
use lib.Dec.{leb}
use lib.ListN.{length, length-map}
use Rattle.text.specs.Lists.{all}
use Rattle.text.proofs.Tests.{and_left, and_right, both}
use Rattle.labels.specs.declared.Family.{Family}
use Rattle.labels.specs.Label.{labels_of}
use Rattle.labels.proofs.Finding.{found_at}
use Rattle.reading.specs.Statement.{Name, Kind, a_word, a_number, Item}
use Rattle.reading.specs.Parts.{Part}
use Rattle.reading.specs.Argument.{Arg}
use Rattle.reading_laws.specs.WellFormed.{up_to64, one_to64, spelled_as, well_named, well_item, is_place, within_limit, well_part, well_arg}
use Rattle.reading_laws.specs.Taken.{IsMode, IsCount, a_count, EachTaken, none_taken, one_taken, RangeTaken, from_to, TakenAs}
use Rattle.reading_laws.specs.Taken as taken
use Rattle.reading_laws.proofs.Places.{places_well}

-- Names.

-- a name of a kind is a name
pub item-named : (k : Kind) (n : Name) → spelled_as k n ≡ true → well_named n ≡ true
item-named a_word n e = simp e
item-named a_number n e = simp (e, or-true)

items_named : (is : List Item) → all well_item is ≡ true → all well_named (map (λ x. x.name) is) ≡ true
items_named [] e = refl
items_named (i ∷ is) e =
    both (item-named i.kind i.name (and_left (well_item i) (all well_item is) e))
    (items_named is (and_right (well_item i) (all well_item is) e))

names_well : (i : Item) (is : List Item) → up_to64 well_item (i ∷ is) ≡ true → one_to64 well_named (map (λ x. x.name) (i ∷ is)) ≡ true
names_well i is w =
    rw (length-map is (λ x. x.name))
    (both (and_left (leb (length (i ∷ is)) 64) (all well_item (i ∷ is)) w)
    (items_named (i ∷ is) (and_right (leb (length (i ∷ is)) 64) (all well_item (i ∷ is)) w)))

-- Modes.

-- an array's items are few
few : (is : List Item) → up_to64 well_item is ≡ true → length is ≤ 64
few is w = leb-true (length is) 64 (and_left (leb (length is) 64) (all well_item is) w)

-- what items are taken for is as many as they, and passes the test that each passes
taken-many : {R : Name → ℕ → Type 0} {is : List Item} {ms : List ℕ} → EachTaken R is ms → length ms ≡ length is
taken-many none_taken = refl
taken-many (one_taken h t) = ap suc (taken-many t)

taken_pass :
    {R : Name → ℕ → Type 0} {p : ℕ → Bool} {is : List Item} {ms : List ℕ}
    → ((n : Name) (m : ℕ) → R n m → p m ≡ true)
    → EachTaken R is ms
    → all p ms ≡ true
taken_pass f none_taken = refl
taken_pass f (one_taken {i} {m} h t) = both (f i.name m h) (taken_pass f t)

-- a mode is a place of its family, and a count keeps within the limit
mode_well : (f : Family) (n : Name) (m : ℕ) → IsMode f n m → is_place f m ≡ true
mode_well f n m e = lt-ltb m (length (labels_of f)) (found_at n.spelling (labels_of f) m e).within

count_well : (limit : ℕ) (n : Name) (v : ℕ) → IsCount limit n v → within_limit limit v ≡ true
count_well limit n v (a_count d h) = h

-- a range goes forwards
pub range_well : {limit : ℕ} {low high : Name} {a : Arg} → RangeTaken limit low high a → well_arg limit a ≡ true
range_well {limit} {high} (from_to {a} {b} e h l) = both (le-leb a b l) (count_well limit high b h)

-- What an argument is taken for is well formed where the argument is.
pub part_well : {limit : ℕ} {a : Arg} {p : Part} → TakenAs limit a p → well_arg limit a ≡ true → well_part limit p ≡ true
part_well taken.every_mode w = refl
part_well (taken.one_mode {f} {n} e) w = simp (mode_well f n _ e)
part_well (taken.some_modes {f} {i} {is} {ms} t) w =
    places_well f ms (omega (arith, taken-many t)) (omega (arith, taken-many t, few (i ∷ is) w)) (taken_pass (mode_well f) t)
part_well {limit} (taken.one_count {n} {v} e) w = count_well limit n v e
part_well taken.a_range w = w
part_well {limit} (taken.some_counts {i} {is} (one_taken {m} {ms} h t)) w =
    both (le-leb (length (m ∷ ms)) 64 (omega (arith, taken-many t, few (i ∷ is) w))) (taken_pass (count_well limit) (one_taken {i = i} h t))
part_well (taken.an_n e) w = refl
part_well taken.every_name w = refl
part_well taken.a_symbol w = w
part_well (taken.one_name {i}) w = both (item-named i.kind i.name w) refl
part_well (taken.some_names {i} {is}) w = names_well i is w
part_well (taken.a_name {i}) w = item-named i.kind i.name w
part_well taken.one_value w = both w refl
part_well taken.some_values w = w
