-- Modes of an array, their repeats gone: still places of the family, no more than before, and none twice.
-- Assumes nothing.
use Prim.Native.Nat.{ℕ, zero, suc, ◌≤◌, ◌<◌}
use native.Mathlib.Omega.{arith}
use mathlib.Core.Path.{◌≡◌, refl, ap}
use mathlib.Core.Bool.{Bool, true, false, not, cond}
use mathlib.Core.List.{List, [], ◌∷◌}
use borrow.Author.Tests.{eqb-true, eqb-false, ltb-true, lt-ltb, le-leb, not-true}
use lib.Dec.{eqb, ltb}
use lib.ListN.{length}
use Rattle.text.specs.Lists.{all}
use Rattle.text.proofs.Tests.{and_left, and_right}
use Rattle.labels.specs.declared.Family.{Family}
use Rattle.reading.specs.Statement.{modes}
use Rattle.reading.specs.Argument.{without, firsts}
use Rattle.reading_laws.specs.WellFormed.{is_place, none_twice, well_modes}
pub use Rattle.text.proofs.Tests.{both}

-- a list without a number: no longer, what all of it passed it still passes, none stands twice that did not, and the number is gone
without-most : (m : ℕ) (xs : List ℕ) → length (without m xs) ≤ length xs
without-most m [] = omega arith
without-most m (x ∷ xs) = go (eqb m x) (without-most m xs)
  where
    go :
        (t : Bool) → length (without m xs) ≤ length xs → length (cond t (without m xs) (x ∷ without m xs)) ≤ length (x ∷ xs)
    go true h = omega arith
    go false h = omega arith

pub without_all : (p : ℕ → Bool) (m : ℕ) (xs : List ℕ) → all p xs ≡ true → all p (without m xs) ≡ true
without_all p m [] e = refl
without_all p m (x ∷ xs) e = go (eqb m x) (without_all p m xs (and_right (p x) (all p xs) e))
  where
    go : (t : Bool) → all p (without m xs) ≡ true → all p (cond t (without m xs) (x ∷ without m xs)) ≡ true
    go true h = h
    go false h = both (and_left (p x) (all p xs) e) h

pub without_twice : (m : ℕ) (xs : List ℕ) → none_twice xs ≡ true → none_twice (without m xs) ≡ true
without_twice m [] e = refl
without_twice m (x ∷ xs) e = go (eqb m x) (without_twice m xs (and_right (all (λ y. not (eqb x y)) xs) _ e))
  where
    go : (t : Bool) → none_twice (without m xs) ≡ true → none_twice (cond t (without m xs) (x ∷ without m xs)) ≡ true
    go true h = h
    go false h = both (without_all (λ y. not (eqb x y)) m xs (and_left (all (λ y. not (eqb x y)) xs) _ e)) h

without_gone : (m : ℕ) (xs : List ℕ) → all (λ x. not (eqb m x)) (without m xs) ≡ true
without_gone m [] = refl
without_gone m (x ∷ xs) = go (eqb m x) refl (without_gone m xs)
  where
    go :
        (t : Bool)
        → eqb m x ≡ t
        → all (λ y. not (eqb m y)) (without m xs) ≡ true
        → all (λ y. not (eqb m y)) (cond t (without m xs) (x ∷ without m xs)) ≡ true
    go true e h = h
    go false e h = simp (e, h)

-- the first of equal ones
firsts-most : (xs : List ℕ) → length (firsts xs) ≤ length xs
unfolding firsts
firsts-most [] = omega arith
firsts-most (x ∷ xs) = omega (arith, without-most x (firsts xs), firsts-most xs)

pub firsts-all : (p : ℕ → Bool) (xs : List ℕ) → all p xs ≡ true → all p (firsts xs) ≡ true
unfolding firsts
firsts-all p [] e = refl
firsts-all p (x ∷ xs) e =
    both (and_left (p x) (all p xs) e) (without_all p x (firsts xs) (firsts-all p xs (and_right (p x) (all p xs) e)))

pub firsts-once : (xs : List ℕ) → none_twice (firsts xs) ≡ true
unfolding firsts
firsts-once [] = refl
firsts-once (x ∷ xs) = both (without_gone x (firsts xs)) (without_twice x (firsts xs) (firsts-once xs))

-- Places of a family, one to 64 of them, are modes of it, their repeats gone.
pub places_well :
    (f : Family) (ms : List ℕ)
    → 0 < length ms
    → length ms ≤ 64
    → all (is_place f) ms ≡ true
    → well_modes f (modes (firsts ms)) ≡ true
unfolding firsts
places_well f [] h k e = absurd (omega arith)
places_well f (m ∷ ms) h k e =
    both (both (le-leb _ _ few) (firsts-all (is_place f) (m ∷ ms) e)) (firsts-once (m ∷ ms))
  where
    few : length (m ∷ without m (firsts ms)) ≤ 64
    few = omega (arith, without-most m (firsts ms), firsts-most ms)

-- Places of which none stands twice are no more than there are places.

-- a number that a list has not is not gone from it
pub without-none : (m : ℕ) (ms : List ℕ) → all (λ x. not (eqb m x)) ms ≡ true → without m ms ≡ ms
without-none m [] e = refl
without-none m (x ∷ xs) e =
    simp (
      not-true (eqb m x) (and_left (not (eqb m x)) (all (λ y. not (eqb m y)) xs) e),
      without-none m xs (and_right (not (eqb m x)) (all (λ y. not (eqb m y)) xs) e),
    )

-- of numbers of which none stands twice, one goes at most
one_gone : (m : ℕ) (xs : List ℕ) → none_twice xs ≡ true → length xs ≤ suc (length (without m xs))
one_gone m [] e = omega arith
one_gone m (x ∷ xs) e = go (eqb m x) refl (one_gone m xs (and_right (all (λ y. not (eqb x y)) xs) _ e))
  where
    go :
        (t : Bool)
        → eqb m x ≡ t
        → length xs ≤ suc (length (without m xs))
        → suc (length xs) ≤ suc (length (cond t (without m xs) (x ∷ without m xs)))
    go true f h =
        let w : without m xs ≡ xs = rw (eqb-true m x f) (without-none x xs (and_left (all (λ y. not (eqb x y)) xs) _ e)) in
        omega (arith, ap length w)
    go false f h = omega arith

-- without the greatest they are below it
without_greatest : (b : ℕ) (xs : List ℕ) → all (λ x. ltb x (suc b)) xs ≡ true → all (λ x. ltb x b) (without b xs) ≡ true
without_greatest b [] e = refl
without_greatest b (x ∷ xs) e = go (eqb b x) refl (without_greatest b xs (and_right (ltb x (suc b)) _ e))
  where
    go :
        (t : Bool)
        → eqb b x ≡ t
        → all (λ y. ltb y b) (without b xs) ≡ true
        → all (λ y. ltb y b) (cond t (without b xs) (x ∷ without b xs)) ≡ true
    go true f h = h
    go false f h =
        both (lt-ltb x b (omega (arith, ltb-true x (suc b) (and_left (ltb x (suc b)) _ e), eqb-false b x f))) h

pub few-places : (b : ℕ) (xs : List ℕ) → all (λ x. ltb x b) xs ≡ true → none_twice xs ≡ true → length xs ≤ b
few-places zero [] e f = omega arith
few-places zero (x ∷ xs) e f = absurd (omega (arith, ltb-true x 0 (and_left (ltb x 0) _ e)))
few-places (suc b) xs e f = omega (arith, one_gone b xs f, few-places b (without b xs) (without_greatest b xs e) (without_twice b xs f))
