-- A well formed statement has at most 272 numbers, and each number of what was read from a text is a 32-bit one: modes are places in their
-- family, counts keep within the limit, names stand in the text, and lists have at most 64 entries.
-- Assumes nothing.
use Prim.Native.Nat.{ℕ, ◌+◌, ◌≤◌}
use native.Mathlib.Omega.{arith}
use mathlib.Core.Path.{◌≡◌, refl}
use mathlib.Core.Bool.{Bool, true, false}
use mathlib.Core.List.{List, [], ◌∷◌}
use mathlib.Core.Option.{some, none}
use borrow.Author.Tests.{leb-true, ltb-true, le-leb}
use lib.Dec.{leb}
use lib.ListN.{length, length-append}
use Rattle.text.specs.Lists.{all}
use Rattle.text.proofs.Tests.{and_left, and_right, both}
use Rattle.labels.specs.declared.Family.{Family}
use Rattle.labels.specs.Label.{labels_of}
use Rattle.reading.specs.Statement.{
  Name,
  Kind,
  a_word,
  a_number,
  Item,
  Modes,
  all_modes,
  modes,
  Counts,
  count,
  range,
  counts,
  estimated,
  counted,
  Operand,
  everyone,
  symbol,
  names,
  multiply,
  add,
  Feature,
  Absorption,
  Elimination,
  Peripherals,
  Transits,
  Lagtime,
  Covariate,
  Allometry,
  DirectEffect,
  EffectComp,
  IndirectEffect,
  Metabolite,
  Iiv,
  Iov,
  Covariance,
  Statement,
  Let,
  feature,
}
use Rattle.reading.specs.Parts.{
  Part,
  modes_part,
  counts_part,
  estimated_part,
  operand_part,
  name_part,
  values_part,
  operator_part,
  omitted,
  feature_parts,
  parts_of,
}
use Rattle.reading.specs.Answer.{accepted}
use Rattle.reading.specs.Read.{read_text}
use Rattle.reading_laws.specs.WellFormed.{
  one_to64,
  well_named,
  well_item,
  is_place,
  none_twice,
  well_modes,
  within_limit,
  well_counts,
  well_operand,
  well_part,
  well_formed,
}
use Rattle.reading_laws.specs.Spelled.{end_of, item_names, operand_names, part_names, parts_names, statement_names, text_names, StandIn, no_name, one_before}
use Rattle.text.proofs.Passing.{all_append, all_weaker}
use Rattle.reading_laws.proofs.Places.{few-places}
use Rattle.reading_laws.proofs.Parts.{few_labels, parts_well}
use Rattle.reading_laws.proofs.WellRead.{text-well_formed}
use Rattle.reading_laws.proofs.Among.{among-all, among_first, among-last}
use Rattle.reading_laws.proofs.Spelled.{stand_some, text-spelled}
use Rattle.reading_laws.proofs.Joining.{accepted-short}
use Rattle.canonical.specs.Numbers.{
  modes_numbers,
  counts_numbers,
  pairs_numbers,
  operand_numbers,
  kind_number,
  items_numbers,
  part_numbers,
  parts_numbers,
  head_numbers,
  numbers_of,
}
use Rattle.canonical_laws.proofs.Lists.{few, each}

-- How many.

-- at most so many numbers an argument has, and arguments have
abbrev most : Part → ℕ
most (modes_part f ms) = 9
most (counts_part c) = 66
most estimated_part = 1
most (operand_part p) = 130
most (name_part n) = 3
most (values_part is) = 194
most (operator_part op) = 1
most omitted = 1

abbrev most_of : List Part → ℕ
most_of [] = 0
most_of (p ∷ ps) = most p + most_of ps

few-modes : (f : Family) (ms : Modes) → well_modes f ms ≡ true → length (modes_numbers ms) ≤ 9
few-modes f all_modes e = omega arith
few-modes f (modes ms) e =
    let l = and_left (one_to64 (is_place f) ms) (none_twice ms) e in
    omega (
      arith,
      few_labels f,
      few-places (length (labels_of f)) ms (each (is_place f) ms l) (and_right (one_to64 (is_place f) ms) (none_twice ms) e),
    )

few-counts : (limit : ℕ) (c : Counts) → well_counts limit c ≡ true → length (counts_numbers c) ≤ 66
few-counts limit (count v) e = omega arith
few-counts limit (range a b) e = omega arith
few-counts limit (counts vs) e = omega (arith, few (within_limit limit) vs e)

pub pairs_many : (ns : List Name) → length (pairs_numbers ns) ≡ length ns + length ns
pairs_many [] = refl
pairs_many (n ∷ ns) = omega (arith, pairs_many ns)

pub values-many : (is : List Item) → length (items_numbers is) ≡ length is + length is + length is
values-many [] = refl
values-many (i ∷ is) = omega (arith, values-many is)

few_operand : (p : Operand) → well_operand p ≡ true → length (operand_numbers p) ≤ 130
few_operand everyone e = omega arith
few_operand (symbol n) e = omega arith
few_operand (names ns) e = omega (arith, pairs_many ns, few well_named ns e)

few-part : (limit : ℕ) (p : Part) → well_part limit p ≡ true → length (part_numbers p) ≤ most p
few-part limit (modes_part f ms) e = few-modes f ms e
few-part limit (counts_part c) e = few-counts limit c e
few-part limit estimated_part e = omega arith
few-part limit (operand_part p) e = few_operand p e
few-part limit (name_part n) e = omega arith
few-part limit (values_part is) e = omega (arith, values-many is, few well_item is e)
few-part limit (operator_part multiply) e = omega arith
few-part limit (operator_part add) e = omega arith
few-part limit omitted e = omega arith

few_parts : (limit : ℕ) (ps : List Part) → all (well_part limit) ps ≡ true → length (parts_numbers ps) ≤ most_of ps
few_parts limit [] e = omega arith
few_parts limit (p ∷ ps) e =
    omega (
      arith,
      length-append (part_numbers p) (parts_numbers ps),
      few-part limit p (and_left (well_part limit p) (all (well_part limit) ps) e),
      few_parts limit ps (and_right (well_part limit p) (all (well_part limit) ps) e),
    )

-- a keyword's place, and how many numbers its arguments have at most
feature-most : (f : Feature) → ((feature_parts f).keyword ≤ 13) × (most_of (feature_parts f).arguments ≤ 270)
unfolding feature_parts
feature-most (Absorption ms) = (omega arith, omega arith)
feature-most (Elimination ms) = (omega arith, omega arith)
feature-most (Peripherals c none) = (omega arith, omega arith)
feature-most (Peripherals c (some ms)) = (omega arith, omega arith)
feature-most (Transits estimated none) = (omega arith, omega arith)
feature-most (Transits estimated (some ms)) = (omega arith, omega arith)
feature-most (Transits (counted c) none) = (omega arith, omega arith)
feature-most (Transits (counted c) (some ms)) = (omega arith, omega arith)
feature-most (Lagtime ms) = (omega arith, omega arith)
feature-most (Covariate m ps cs es op) = (omega arith, omega arith)
feature-most (Allometry n none) = (omega arith, omega arith)
feature-most (Allometry n (some r)) = (omega arith, omega arith)
feature-most (DirectEffect ms) = (omega arith, omega arith)
feature-most (EffectComp ms) = (omega arith, omega arith)
feature-most (IndirectEffect ms ps) = (omega arith, omega arith)
feature-most (Metabolite ms) = (omega arith, omega arith)
feature-most (Iiv m ps es) = (omega arith, omega arith)
feature-most (Iov m ps es) = (omega arith, omega arith)
feature-most (Covariance m ls ps) = (omega arith, omega arith)

statement-most : (s : Statement) → ((parts_of s).keyword ≤ 14) × (most_of (parts_of s).arguments ≤ 270)
unfolding parts_of
statement-most (Let n is) = (omega arith, omega arith)
statement-most (feature f) = let h = feature-most f in (omega arith, h.1)

pub head_many : (k : ℕ) (m : Bool) → length (head_numbers k m) ≡ 2
head_many k true = refl
head_many k false = refl

-- A well formed statement has at most 272 numbers.
pub few-numbers : (limit : ℕ) (s : Statement) → well_formed limit s ≡ true → length (numbers_of s) ≤ 272
unfolding numbers_of
few-numbers limit s e =
    let p = parts_of s in
    omega (
      arith,
      length-append (head_numbers p.keyword p.optional) (parts_numbers p.arguments),
      head_many p.keyword p.optional,
      few_parts limit p.arguments (parts_well limit s e),
      (statement-most s).1,
    )

-- So has each statement that a text is read as.
pub few-numbers-read :
    (limit : ℕ) (text : List ℕ) (ss : List Statement)
    → read_text limit text ≡ accepted ss
    → all (λ s. leb (length (numbers_of s)) 272) ss ≡ true
few-numbers-read limit text ss r =
    all_weaker (λ s e. le-leb (length (numbers_of s)) 272 (few-numbers limit s e)) ss (text-well_formed limit text ss r)

-- How great.

abbrev pub is_small : ℕ → Bool
is_small n = leb n 4294967295

-- a list of at most 64 small numbers, after their number
list_small : (xs : List ℕ) → length xs ≤ 64 → all is_small xs ≡ true → all is_small (length xs ∷ xs) ≡ true
list_small xs h e = both (le-leb (length xs) 4294967295 (omega arith)) e

small-modes : (f : Family) (ms : Modes) → well_modes f ms ≡ true → all is_small (modes_numbers ms) ≡ true
small-modes f all_modes e = refl
small-modes f (modes ms) e =
    let l = and_left (one_to64 (is_place f) ms) (none_twice ms) e in
    list_small ms (few (is_place f) ms l) (all_weaker place-small ms (each (is_place f) ms l))
  where
    place-small : (i : ℕ) → is_place f i ≡ true → is_small i ≡ true
    place-small i e = le-leb i 4294967295 (omega (arith, ltb-true i (length (labels_of f)) e, few_labels f))

head_small : (k : ℕ) (m : Bool) → k ≤ 14 → all is_small (head_numbers k m) ≡ true
head_small k true h = both (le-leb k 4294967295 (omega arith)) refl
head_small k false h = both (le-leb k 4294967295 (omega arith)) refl

module _ (limit : ℕ) where
  count_small : (v : ℕ) → within_limit limit v ≡ true → is_small v ≡ true
  count_small v e = and_left (leb v 4294967295) (leb v limit) e

  small-counts : (c : Counts) → well_counts limit c ≡ true → all is_small (counts_numbers c) ≡ true
  small-counts (count v) e = both (count_small v e) refl
  small-counts (range a b) e =
      let high = count_small b (and_right (leb a b) (within_limit limit b) e) in
      let low : a ≤ 4294967295 = omega (arith, leb-true a b (and_left (leb a b) (within_limit limit b) e), leb-true b 4294967295 high) in
      both (le-leb a 4294967295 low) (both high refl)
  small-counts (counts vs) e = list_small vs (few (within_limit limit) vs e) (all_weaker count_small vs (each (within_limit limit) vs e))

  -- names that stand in a text of so many bytes
  module _ {text : List ℕ} (short : length text ≤ 16384) where
    small-pairs : {o : ℕ} {ns : List Name} → StandIn text o ns → all is_small (pairs_numbers ns) ≡ true
    small-pairs no_name = refl
    small-pairs (one_before {n} l s r) =
        both (le-leb n.place 4294967295 (omega (arith, s.within)))
        (both (le-leb (length n.spelling) 4294967295 (omega (arith, s.within))) (small-pairs r))

    small-values : {o : ℕ} (is : List Item) → StandIn text o (item_names is) → all is_small (items_numbers is) ≡ true
    small-values [] h = refl
    small-values {o = o} (i ∷ is) (one_before l s r) =
        both (kind-small i.kind)
        (both (le-leb i.name.place 4294967295 (omega (arith, s.within)))
        (both (le-leb (length i.name.spelling) 4294967295 (omega (arith, s.within))) (small-values {o = end_of i.name} is r)))
      where
        kind-small : (k : Kind) → is_small (kind_number k) ≡ true
        kind-small a_word = refl
        kind-small a_number = refl

    small-operand :
        {o : ℕ} (p : Operand) → well_operand p ≡ true → StandIn text o (operand_names p) → all is_small (operand_numbers p) ≡ true
    small-operand everyone e h = refl
    small-operand (symbol n) e h = small-pairs h
    small-operand (names ns) e h = both (le-leb (length ns) 4294967295 (omega (arith, few well_named ns e))) (small-pairs h)

    small-part : {o : ℕ} (p : Part) → well_part limit p ≡ true → StandIn text o (part_names p) → all is_small (part_numbers p) ≡ true
    small-part (modes_part f ms) e h = small-modes f ms e
    small-part (counts_part c) e h = small-counts c e
    small-part estimated_part e h = refl
    small-part (operand_part p) e h = small-operand p e h
    small-part (name_part n) e h = small-pairs h
    small-part (values_part is) e h = both (le-leb (length is) 4294967295 (omega (arith, few well_item is e))) (small-values is h)
    small-part (operator_part multiply) e h = refl
    small-part (operator_part add) e h = refl
    small-part omitted e h = refl

    small-parts :
        {o : ℕ} (ps : List Part) → all (well_part limit) ps ≡ true → StandIn text o (parts_names ps) → all is_small (parts_numbers ps) ≡ true
    small-parts [] e h = refl
    small-parts (p ∷ ps) e h =
        all_append is_small (part_numbers p) (parts_numbers ps)
        (small-part p (and_left (well_part limit p) (all (well_part limit) ps) e) (stand_some (among_first (part_names p) (parts_names ps)) h))
        (small-parts ps (and_right (well_part limit p) (all (well_part limit) ps) e)
        (stand_some (among-last (part_names p) (among-all (parts_names ps))) h))

    -- A well formed statement whose names stand in a text has 32-bit numbers.
    pub small-statement :
        {o : ℕ} (s : Statement) → well_formed limit s ≡ true → StandIn text o (statement_names s) → all is_small (numbers_of s) ≡ true
    unfolding numbers_of
    small-statement s e h =
        let p = parts_of s in
        all_append is_small (head_numbers p.keyword p.optional) (parts_numbers p.arguments)
        (head_small p.keyword p.optional (statement-most s).0) (small-parts p.arguments (parts_well limit s e) h)

    small-statements :
        {o : ℕ} (ss : List Statement)
        → all (well_formed limit) ss ≡ true
        → StandIn text o (text_names ss)
        → all (λ s. all is_small (numbers_of s)) ss ≡ true
    small-statements [] e h = refl
    small-statements (s ∷ ss) e h =
        both (small-statement s (and_left (well_formed limit s) (all (well_formed limit) ss) e)
        (stand_some (among_first (statement_names s) (text_names ss)) h))
        (small-statements ss (and_right (well_formed limit s) (all (well_formed limit) ss) e)
        (stand_some (among-last (statement_names s) (among-all (text_names ss))) h))

-- Each number of each statement that a text is read as is a 32-bit one.
pub small-numbers :
    (limit : ℕ) (text : List ℕ) (ss : List Statement)
    → read_text limit text ≡ accepted ss
    → all (λ s. all is_small (numbers_of s)) ss ≡ true
small-numbers limit text ss r =
    small-statements limit (accepted-short limit text ss r) ss (text-well_formed limit text ss r) (text-spelled limit text ss r)
