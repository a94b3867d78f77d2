-- A statement is told by its words.
-- Assumes nothing.
use Prim.Native.Nat.{ℕ}
use mathlib.Core.Path.{◌≡◌, refl, ap, ap₂}
use mathlib.Core.Bool.{cond}
use mathlib.Core.List.{List, [], ◌∷◌, map}
use mathlib.Core.Option.{Option, some, none}
use lib.Dec.{eqb}
use lib.ListN.{get_or, drop}
use Rattle.labels.specs.declared.Family.{Family}
use Rattle.reading.specs.Statement.{
  Name,
  Kind,
  a_word,
  a_number,
  Item,
  Modes,
  all_modes,
  modes,
  Counts,
  count,
  range,
  counts,
  TransitCounts,
  estimated,
  counted,
  Operand,
  everyone,
  symbol,
  names,
  Operator,
  multiply,
  add,
  Absorption,
  Elimination,
  Peripherals,
  Transits,
  Lagtime,
  Covariate,
  Allometry,
  DirectEffect,
  EffectComp,
  IndirectEffect,
  Metabolite,
  Iiv,
  Iov,
  Covariance,
  Statement,
  Let,
  feature,
}
use Rattle.reading.specs.Parts.{modes_part, counts_part, operand_part, name_part, operator_part, transits_part, some_part, feature_parts, parts_of}
use Rattle.resolving.specs.Ground.{is_optional}
use Rattle.resolving_laws.specs.Same.{Words, name_word, kind_number, item_word, part_words, statement_words}
use Rattle.resolving_laws.proofs.EffectLaws.{mark_back}

-- The arguments of a statement, from their words.

what : Words → ℕ
what ws = get_or (get_or ws 0 []) 0 0

first : Words → List ℕ
first ws = get_or ws 1 []

name_from : List ℕ → Name
name_from w = record { place = get_or w 0 0; spelling = drop 1 w }

modes_from : Words → Modes
modes_from ws = cond (eqb (what ws) 0) all_modes (modes (first ws))

counts_from : Words → Counts
counts_from ws =
    cond (eqb (what ws) 2)
    (count (get_or (first ws) 0 0))
    (cond (eqb (what ws) 3) (range (get_or (first ws) 0 0) (get_or (first ws) 1 0)) (counts (first ws)))

transits_from : Words → TransitCounts
transits_from ws = cond (eqb (what ws) 5) estimated (counted (counts_from ws))

operand_from : Words → Operand
operand_from ws =
    cond (eqb (what ws) 6)
    everyone
    (cond (eqb (what ws) 7) (symbol (name_from (first ws))) (names (map name_from (drop 1 ws))))

operator_from : Words → Operator
operator_from ws = cond (eqb (what ws) 11) multiply add

-- one that may be left out
some_from : {A : Type 0} → (Words → A) → Words → Option A
some_from from ws = cond (eqb (what ws) 13) none (some (from ws))

item_from : List ℕ → Item
item_from w = record { kind = cond (eqb (get_or w 0 0) 0) a_word a_number; name = name_from (drop 1 w) }

pub statement_from : List Words → Statement
statement_from ws =
    let k = get_or (get_or (get_or ws 0 []) 0 []) 0 0 in
    let o = is_optional (get_or (get_or (get_or ws 0 []) 0 []) 1 0) in
    let a = get_or ws 1 [] in
    let b = get_or ws 2 [] in
    let d = get_or ws 3 [] in
    let e = get_or ws 4 [] in
    cond (eqb k 0) (feature (Absorption (modes_from a)))
    (cond (eqb k 1) (feature (Elimination (modes_from a)))
    (cond (eqb k 2) (feature (Peripherals (counts_from a) (some_from modes_from b)))
    (cond (eqb k 3) (feature (Transits (transits_from a) (some_from modes_from b)))
    (cond (eqb k 4) (feature (Lagtime (modes_from a)))
    (cond (eqb k 5) (feature (Covariate o (operand_from a) (operand_from b) (modes_from d) (operator_from e)))
    (cond (eqb k 6) (feature (Allometry (name_from (first a)) (some_from (λ w. name_from (first w)) b)))
    (cond (eqb k 7) (feature (DirectEffect (modes_from a)))
    (cond (eqb k 8) (feature (EffectComp (modes_from a)))
    (cond (eqb k 9) (feature (IndirectEffect (modes_from a) (modes_from b)))
    (cond (eqb k 10) (feature (Metabolite (modes_from a)))
    (cond (eqb k 11) (feature (Iiv o (operand_from a) (modes_from b)))
    (cond (eqb k 12) (feature (Iov o (operand_from a) (modes_from b)))
    (cond (eqb k 13) (feature (Covariance o (modes_from a) (operand_from b)))
    (Let (name_from (first a)) (map item_from (drop 1 b))))))))))))))))

-- They are what they were.

modes-again : (f : Family) (ms : Modes) → modes_from (part_words (modes_part f ms)) ≡ ms
unfolding modes_from what first
modes-again f all_modes = refl
modes-again f (modes ms) = refl

some_modes-again : (f : Family) (o : Option Modes) → some_from modes_from (part_words (some_part (modes_part f) o)) ≡ o
unfolding some_from modes_from what first
some_modes-again f none = refl
some_modes-again f (some all_modes) = refl
some_modes-again f (some (modes ms)) = refl

counts-again : (n : Counts) → counts_from (part_words (counts_part n)) ≡ n
unfolding counts_from what first
counts-again (count n) = refl
counts-again (range m n) = refl
counts-again (counts ns) = refl

transits-again : (n : TransitCounts) → transits_from (part_words (transits_part n)) ≡ n
unfolding transits_from counts_from what first
transits-again estimated = refl
transits-again (counted (count n)) = refl
transits-again (counted (range m n)) = refl
transits-again (counted (counts ns)) = refl

names-again : (ns : List Name) → map name_from (map name_word ns) ≡ ns
unfolding name_from
names-again [] = refl
names-again (n ∷ ns) = ap (λ (l : List Name). n ∷ l) (names-again ns)

operand_again : (o : Operand) → operand_from (part_words (operand_part o)) ≡ o
unfolding operand_from name_from what first
operand_again everyone = refl
operand_again (symbol n) = refl
operand_again (names ns) = ap names (names-again ns)

operator-again : (op : Operator) → operator_from (part_words (operator_part op)) ≡ op
unfolding operator_from what
operator-again multiply = refl
operator-again add = refl

some_name-again : (o : Option Name) → some_from (λ w. name_from (first w)) (part_words (some_part name_part o)) ≡ o
unfolding some_from name_from what first
some_name-again none = refl
some_name-again (some n) = refl

kind-again : (k : Kind) → cond (eqb (kind_number k) 0) a_word a_number ≡ k
kind-again a_word = refl
kind-again a_number = refl

items_again : (is : List Item) → map item_from (map item_word is) ≡ is
unfolding item_from name_from
items_again [] = refl
items_again (i ∷ is) =
    ap₂ (λ (k : Kind) (l : List Item). record { kind = k; name = i.name } ∷ l) (kind-again i.kind) (items_again is)

pub from_words : (s : Statement) → statement_from (statement_words s) ≡ s
unfolding statement_from parts_of feature_parts name_from first
from_words (Let n is) = ap (Let n) (items_again is)
from_words (feature (Absorption ms)) = simp modes-again
from_words (feature (Elimination ms)) = simp modes-again
from_words (feature (Peripherals n ms)) = simp (counts-again, some_modes-again)
from_words (feature (Transits n ms)) = simp (transits-again, some_modes-again)
from_words (feature (Lagtime ms)) = simp modes-again
from_words (feature (Covariate m ps cs es op)) = simp (mark_back, operand_again, modes-again, operator-again)
from_words (feature (Allometry n r)) = simp some_name-again
from_words (feature (DirectEffect ms)) = simp modes-again
from_words (feature (EffectComp ms)) = simp modes-again
from_words (feature (IndirectEffect ms ps)) = simp modes-again
from_words (feature (Metabolite ms)) = simp modes-again
from_words (feature (Iiv m ps es)) = simp (mark_back, operand_again, modes-again)
from_words (feature (Iov m ps es)) = simp (mark_back, operand_again, modes-again)
from_words (feature (Covariance m ls ps)) = simp (mark_back, operand_again, modes-again)
