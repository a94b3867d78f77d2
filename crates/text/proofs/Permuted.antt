-- Lists with the same elements, each as often, in any order. What the order of a list does to tests of it, to those of it that pass, to first occurrences, and to lists made of it.
-- Assumes nothing.
use Prim.Native.Nat.{ℕ, ◌+◌}
use native.Mathlib.Omega.{arith}
use mathlib.Core.Path.{◌≡◌, refl, ◌∙◌, ap, subst}
use mathlib.Core.Bool.{Bool, true, false, cond, not, ◌||◌}
use mathlib.Core.List.{List, [], ◌∷◌, ◌++◌, map}
use lib.ListN.{length}
use Rattle.text.specs.Lists.{any, keep, firsts, gather}
use Rattle.text.proofs.Bools.{or_swap}

pub data Permuted {A : Type 0} : List A → List A → Type 0 where
  unmoved : Permuted [] []
  front : (x : A) {l m : List A} → Permuted l m → Permuted (x ∷ l) (x ∷ m)
  swapped : (x y : A) (l : List A) → Permuted (x ∷ y ∷ l) (y ∷ x ∷ l)
  further : {l m n : List A} → Permuted l m → Permuted m n → Permuted l n

module _ {A : Type 0} where
  pub permuted_self : (l : List A) → Permuted l l
  permuted_self [] = unmoved
  permuted_self (x ∷ l) = front x (permuted_self l)

  pub permuted_back : {l m : List A} → Permuted l m → Permuted m l
  permuted_back unmoved = unmoved
  permuted_back (front x p) = front x (permuted_back p)
  permuted_back (swapped x y l) = swapped y x l
  permuted_back (further p q) = further (permuted_back q) (permuted_back p)

  pub equal_permuted : {l m : List A} → l ≡ m → Permuted l m
  equal_permuted {l} e = subst (λ (n : List A). Permuted l n) e (permuted_self l)

  -- Tests.

  pub any_permuted : (p : A → Bool) {l m : List A} → Permuted l m → any p l ≡ any p m
  any_permuted p unmoved = refl
  any_permuted p (front x q) = ap (λ (t : Bool). p x || t) (any_permuted p q)
  any_permuted p (swapped x y l) = or_swap (p x) (p y) (any p l)
  any_permuted p (further q r) = any_permuted p q ∙ any_permuted p r

  pub length_permuted : {l m : List A} → Permuted l m → length l ≡ length m
  length_permuted unmoved = refl
  length_permuted (front x q) = omega (arith, length_permuted q)
  length_permuted (swapped x y l) = refl
  length_permuted (further q r) = length_permuted q ∙ length_permuted r

  -- Those that pass.

  kept_front : (x : A) (t : Bool) {l m : List A} → Permuted l m → Permuted (cond t (x ∷ l) l) (cond t (x ∷ m) m)
  kept_front x true p = front x p
  kept_front x false p = p

  kept_swapped :
      (x y : A) (s t : Bool) (l : List A)
      → Permuted (cond s (x ∷ cond t (y ∷ l) l) (cond t (y ∷ l) l)) (cond t (y ∷ cond s (x ∷ l) l) (cond s (x ∷ l) l))
  kept_swapped x y true true l = swapped x y l
  kept_swapped x y true false l = permuted_self (x ∷ l)
  kept_swapped x y false true l = permuted_self (y ∷ l)
  kept_swapped x y false false l = permuted_self l

  pub keep_permuted : (p : A → Bool) {l m : List A} → Permuted l m → Permuted (keep p l) (keep p m)
  keep_permuted p unmoved = unmoved
  keep_permuted p (front x q) = kept_front x (p x) (keep_permuted p q)
  keep_permuted p (swapped x y l) = kept_swapped x y (p x) (p y) (keep p l)
  keep_permuted p (further q r) = further (keep_permuted p q) (keep_permuted p r)

  -- two tests, in either order
  pub keep-keep : (p q : A → Bool) (l : List A) → keep p (keep q l) ≡ keep q (keep p l)
  keep-keep p q [] = refl
  keep-keep p q (x ∷ l) = by_cases (p x) (q x) refl refl (keep-keep p q l)
    where
      by_cases :
          (s t : Bool) → p x ≡ s → q x ≡ t → keep p (keep q l) ≡ keep q (keep p l)
          → keep p (cond t (x ∷ keep q l) (keep q l)) ≡ keep q (cond s (x ∷ keep p l) (keep p l))
      by_cases true true e f r = simp (e, f) (ap (λ (n : List A). x ∷ n) r)
      by_cases true false e f r = simp f r
      by_cases false true e f r = simp e r
      by_cases false false e f r = r

  -- Lists one after the other.

  pub append-before : (k : List A) {l m : List A} → Permuted l m → Permuted (k ++ l) (k ++ m)
  append-before [] p = p
  append-before (x ∷ k) p = front x (append-before k p)

  pub append_after : (k : List A) {l m : List A} → Permuted l m → Permuted (l ++ k) (m ++ k)
  append_after k unmoved = permuted_self k
  append_after k (front x p) = front x (append_after k p)
  append_after k (swapped x y l) = swapped x y (l ++ k)
  append_after k (further p q) = further (append_after k p) (append_after k q)

  pub moved : (x : A) (k l : List A) → Permuted (x ∷ (k ++ l)) (k ++ (x ∷ l))
  moved x [] l = permuted_self (x ∷ l)
  moved x (y ∷ k) l = further (swapped x y (k ++ l)) (front y (moved x k l))

  pub append_swapped : (j k l : List A) → Permuted (j ++ (k ++ l)) (k ++ (j ++ l))
  append_swapped [] k l = permuted_self (k ++ l)
  append_swapped (x ∷ j) k l = further (front x (append_swapped j k l)) (moved x k (j ++ l))

-- First occurrences, where the test is equality.
module _ {A : Type 0} (same : A → A → Bool) (same-equal : (x y : A) → same x y ≡ true → x ≡ y) (same_sym : (x y : A) → same x y ≡ same y x) where
  firsts_swapped :
      (x y : A) (l : List A) (s t : Bool)
      → s ≡ t
      → (s ≡ true → x ≡ y)
      → Permuted
      (x ∷ cond (not s) (y ∷ keep (λ z. not (same x z)) (keep (λ z. not (same y z)) l)) (keep (λ z. not (same x z)) (keep (λ z. not (same y z)) l)))
      (y ∷ cond (not t) (x ∷ keep (λ z. not (same y z)) (keep (λ z. not (same x z)) l)) (keep (λ z. not (same y z)) (keep (λ z. not (same x z)) l)))
  firsts_swapped x y l true t e f =
      rw (← e)
      (rw (keep-keep (λ z. not (same x z)) (λ z. not (same y z)) l)
      (subst
      (λ (z : A). Permuted (x ∷ keep (λ z. not (same y z)) (keep (λ z. not (same x z)) l)) (z ∷ keep (λ z. not (same y z)) (keep (λ z. not (same x z)) l)))
      (f refl)
      (permuted_self _)))
  firsts_swapped x y l false t e f =
      rw (← e)
      (rw (keep-keep (λ z. not (same x z)) (λ z. not (same y z)) l)
      (swapped x y (keep (λ z. not (same y z)) (keep (λ z. not (same x z)) l))))

  pub firsts_permuted : {l m : List A} → Permuted l m → Permuted (firsts same l) (firsts same m)
  firsts_permuted unmoved = unmoved
  firsts_permuted (front x p) = front x (keep_permuted (λ z. not (same x z)) (firsts_permuted p))
  firsts_permuted (swapped x y l) = firsts_swapped x y (firsts same l) (same x y) (same y x) (same_sym x y) (same-equal x y)
  firsts_permuted (further p q) = further (firsts_permuted p) (firsts_permuted q)

module _ {A B : Type 0} where
  pub map_permuted : (f : A → B) {l m : List A} → Permuted l m → Permuted (map f l) (map f m)
  map_permuted f unmoved = unmoved
  map_permuted f (front x p) = front (f x) (map_permuted f p)
  map_permuted f (swapped x y l) = swapped (f x) (f y) (map f l)
  map_permuted f (further p q) = further (map_permuted f p) (map_permuted f q)

  pub gather_permuted : (f : A → List B) {l m : List A} → Permuted l m → Permuted (gather f l) (gather f m)
  gather_permuted f unmoved = unmoved
  gather_permuted f (front x p) = append-before (f x) (gather_permuted f p)
  gather_permuted f (swapped x y l) = append_swapped (f x) (f y) (gather f l)
  gather_permuted f (further p q) = further (gather_permuted f p) (gather_permuted f q)

-- Sums.
abbrev pub total : {A : Type 0} → (A → ℕ) → List A → ℕ
total f [] = 0
total f (x ∷ l) = f x + total f l

module _ {A : Type 0} where
  pub total_permuted : (f : A → ℕ) {l m : List A} → Permuted l m → total f l ≡ total f m
  total_permuted f unmoved = refl
  total_permuted f (front x p) = omega (arith, total_permuted f p)
  total_permuted f (swapped x y l) = omega arith
  total_permuted f (further p q) = total_permuted f p ∙ total_permuted f q
