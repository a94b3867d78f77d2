-- Tests that bytes and the elements of lists pass.
-- Assumes nothing.
use mathlib.Core.Path.{◌≡◌, refl}
use mathlib.Core.Bool.{Bool, true, false, cond, ◌&&◌}
use mathlib.Core.List.{List, [], ◌∷◌, ◌++◌}
use Prim.Native.Nat.{ℕ, zero, suc, ◌<◌}
use native.Mathlib.Nat.{le_of_suc-le-suc, not-suc-le-zero}
use lib.ListN.{length, get_or, take}
use Rattle.text.specs.Bytes.{span, every}
use Rattle.text.specs.Lists.{all}
use Rattle.text.proofs.Tests.{and_left, and_right, both}

-- a test that all the elements of a list pass is passed at each index
pub all_at : {A : Type 0} (p : A → Bool) (xs : List A) (i : ℕ) (d : A) → all p xs ≡ true → i < length xs → p (get_or xs i d) ≡ true
all_at p [] i d e h = absurd (not-suc-le-zero h)
all_at p (x ∷ xs) zero d e h = and_left (p x) (all p xs) e
all_at p (x ∷ xs) (suc i) d e h = all_at p xs i d (and_right (p x) (all p xs) e) (le_of_suc-le-suc h)

-- a run's bytes pass its test, and bytes that all pass it are one run
pub every-run : (p : ℕ → Bool) (l : List ℕ) → every p (take (span p l) l) ≡ true
every-run p [] = refl
every-run p (b ∷ bs) = go (p b) refl (every-run p bs)
  where
    go : (t : Bool) → p b ≡ t → every p (take (span p bs) bs) ≡ true → every p (take (cond t (suc (span p bs)) 0) (b ∷ bs)) ≡ true
    go true e h = simp (e, h)
    go false e h = refl

pub span-every : (p : ℕ → Bool) (l : List ℕ) → every p l ≡ true → span p l ≡ length l
span-every p [] e = refl
span-every p (b ∷ bs) e =
    simp (and_left (p b) (every p bs) e, span-every p bs (and_right (p b) (every p bs) e))

-- a test that the elements of two lists pass
pub all_append : {A : Type 0} (p : A → Bool) (xs ys : List A) → all p xs ≡ true → all p ys ≡ true → all p (xs ++ ys) ≡ true
all_append p [] ys e h = h
all_append p (x ∷ xs) ys e h = both (and_left (p x) (all p xs) e) (all_append p xs ys (and_right (p x) (all p xs) e) h)

pub all_left : {A : Type 0} (p : A → Bool) (xs ys : List A) → all p (xs ++ ys) ≡ true → all p xs ≡ true
all_left p [] ys e = refl
all_left p (x ∷ xs) ys e = both (and_left (p x) (all p (xs ++ ys)) e) (all_left p xs ys (and_right (p x) (all p (xs ++ ys)) e))

pub all_right : {A : Type 0} (p : A → Bool) (xs ys : List A) → all p (xs ++ ys) ≡ true → all p ys ≡ true
all_right p [] ys e = e
all_right p (x ∷ xs) ys e = all_right p xs ys (and_right (p x) (all p (xs ++ ys)) e)

-- two tests that all the elements of a list pass, as one
pub all_both : {A : Type 0} (p q : A → Bool) (xs : List A) → all p xs ≡ true → all q xs ≡ true → all (λ x. p x && q x) xs ≡ true
all_both p q [] e h = refl
all_both p q (x ∷ xs) e h =
    both (both (and_left (p x) (all p xs) e) (and_left (q x) (all q xs) h))
    (all_both p q xs (and_right (p x) (all p xs) e) (and_right (q x) (all q xs) h))

-- what passes one test passes another
pub all_weaker : {A : Type 0} {p q : A → Bool} → ((x : A) → p x ≡ true → q x ≡ true) → (xs : List A) → all p xs ≡ true → all q xs ≡ true
all_weaker h [] e = refl
all_weaker {p} h (x ∷ xs) e = both (h x (and_left (p x) (all p xs) e)) (all_weaker h xs (and_right (p x) (all p xs) e))

-- a test that all the elements of a list pass, one by one
abbrev pub Passing : {A : Type 0} → (A → Bool) → List A → Type 0
Passing p [] = Unit {0}
Passing p (x ∷ xs) = (p x ≡ true) × Passing p xs

pub all_passing : {A : Type 0} (p : A → Bool) (xs : List A) → all p xs ≡ true → Passing p xs
all_passing p [] e = tt
all_passing p (x ∷ xs) e = (and_left (p x) (all p xs) e, all_passing p xs (and_right (p x) (all p xs) e))
