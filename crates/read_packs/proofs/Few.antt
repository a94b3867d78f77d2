-- Modes of an array, each once, are few: one entry more, and that there are no more than places.
-- Assumes nothing.
use mathlib.Core.Path.{◌≡◌, refl, ◌∙◌, ap, sym}
use mathlib.Core.Bool.{Bool, true, false, not, cond, ◌&&◌, ◌||◌, false≢true}
use mathlib.Core.List.{List, [], ◌∷◌, ◌++◌}
use Prim.Native.Nat.{ℕ, zero, suc, ◌≤◌, ◌<◌}
use native.Mathlib.Omega.{arith}
use borrow.Author.Tests.{eq-eqb, ne_eqb, eqb-true, eqb-false, ltb-true, lt-ltb}
use lib.Dec.{eqb, ltb}
use lib.ListN.{length}
use Rattle.text.specs.Bytes.{member_of}
use Rattle.text.specs.Lists.{all}
use Rattle.text.proofs.Tests.{and_left, and_right}
use Rattle.reading.specs.Argument.{without, firsts}
use Rattle.reading_laws.specs.WellFormed.{none_twice}
use Rattle.reading_laws.proofs.Places.{both, without_twice}
use Rattle.read_packs.specs.Packs.{with_mode}

-- the last of a list, left out or kept
without-own : (x : ℕ) (ms : List ℕ) → without x (ms ++ x ∷ []) ≡ without x ms
without-own x [] = rw (eq-eqb x x refl)
without-own x (m ∷ ms) = ap (λ (l : List ℕ). cond (eqb x m) l (m ∷ l)) (without-own x ms)

without_other : (x y : ℕ) (ms : List ℕ) → eqb x y ≡ false → without x (ms ++ y ∷ []) ≡ without x ms ++ y ∷ []
without_other x y [] e = rw e
without_other x y (m ∷ ms) e = go (eqb x m) (without_other x y ms e)
  where
    go : (t : Bool) → without x (ms ++ y ∷ []) ≡ without x ms ++ y ∷ []
        → cond t (without x (ms ++ y ∷ [])) (m ∷ without x (ms ++ y ∷ [])) ≡ cond t (without x ms) (m ∷ without x ms) ++ y ∷ []
    go true h = h
    go false h = ap (λ (l : List ℕ). m ∷ l) h

-- a mode stands among those that are left when another goes
member_without : (x y : ℕ) (ms : List ℕ) → eqb y x ≡ false → member_of (without x ms) y ≡ member_of ms y
member_without x y [] e = refl
member_without x y (m ∷ ms) e = go (eqb x m) refl (member_without x y ms e)
  where
    go : (t : Bool) → eqb x m ≡ t → member_of (without x ms) y ≡ member_of ms y
        → member_of (cond t (without x ms) (m ∷ without x ms)) y ≡ (eqb y m || member_of ms y)
    go true h r = rw (sym (eqb-true x m h), e) r
    go false h r = ap (λ (b : Bool). eqb y m || b) r

-- one entry more
pub firsts_more : (ms : List ℕ) (y : ℕ) → firsts (ms ++ y ∷ []) ≡ with_mode (firsts ms) y
unfolding firsts
firsts_more [] y = refl
firsts_more (x ∷ ms) y = go (eqb y x) refl (member_of (firsts ms) y) refl (firsts_more ms y)
  where
    go :
        (t : Bool) → eqb y x ≡ t
        → (m : Bool) → member_of (firsts ms) y ≡ m
        → firsts (ms ++ y ∷ []) ≡ with_mode (firsts ms) y
        → x ∷ without x (firsts (ms ++ y ∷ []))
        ≡ cond (t || member_of (without x (firsts ms)) y) (x ∷ without x (firsts ms)) (x ∷ without x (firsts ms) ++ y ∷ [])
    go true e true f h = ap (λ (l : List ℕ). x ∷ without x l) {y = firsts ms} (h ∙ rw f)
    go true e false f h =
        ap (λ (l : List ℕ). x ∷ without x l) {y = firsts ms ++ y ∷ []} (h ∙ rw f)
        ∙ ap (λ (k : ℕ). x ∷ without x (firsts ms ++ k ∷ [])) (eqb-true y x e)
        ∙ ap (λ (l : List ℕ). x ∷ l) (without-own x (firsts ms))
    go false e true f h =
        rw (member_without x y (firsts ms) e, f) (ap (λ (l : List ℕ). x ∷ without x l) {y = firsts ms} (h ∙ rw f))
    go false e false f h =
        rw (member_without x y (firsts ms) e, f)
        (ap (λ (l : List ℕ). x ∷ without x l) {y = firsts ms ++ y ∷ []} (h ∙ rw f)
        ∙ ap (λ (l : List ℕ). x ∷ l) (without_other x y (firsts ms) (ne_eqb x y (λ q. eqb-false y x e (sym q)))))

-- a number that a list has not is not gone from it
without-none : (b : ℕ) (ms : List ℕ) → all (λ x. not (eqb b x)) ms ≡ true → without b ms ≡ ms
without-none b [] e = refl
without-none b (m ∷ ms) e = go (eqb b m) e (without-none b ms (and_right (not (eqb b m)) _ e))
  where
    go : (t : Bool) → (not t && all (λ x. not (eqb b x)) ms) ≡ true → without b ms ≡ ms → cond t (without b ms) (m ∷ without b ms) ≡ m ∷ ms
    go true f h = absurd (false≢true f)
    go false f h = ap (λ (l : List ℕ). m ∷ l) h

-- of numbers of which none stands twice, one goes at most
one_gone : (b : ℕ) (ms : List ℕ) → none_twice ms ≡ true → length ms ≤ suc (length (without b ms))
one_gone b [] e = omega arith
one_gone b (m ∷ ms) e = go (eqb b m) refl (one_gone b ms (and_right (all (λ x. not (eqb m x)) ms) _ e))
  where
    go : (t : Bool) → eqb b m ≡ t → length ms ≤ suc (length (without b ms)) → suc (length ms) ≤ suc (length (cond t (without b ms) (m ∷ without b ms)))
    go true f h =
        let w : without b ms ≡ ms = rw (eqb-true b m f) (without-none m ms (and_left (all (λ x. not (eqb m x)) ms) _ e)) in
        omega (arith, ap length w)
    go false f h = omega arith

-- without the greatest they are below it
lower : (b : ℕ) (ms : List ℕ) → all (λ x. ltb x (suc b)) ms ≡ true → all (λ x. ltb x b) (without b ms) ≡ true
lower b [] e = refl
lower b (m ∷ ms) e = go (eqb b m) refl (lower b ms (and_right (ltb m (suc b)) _ e))
  where
    go : (t : Bool) → eqb b m ≡ t → all (λ x. ltb x b) (without b ms) ≡ true → all (λ x. ltb x b) (cond t (without b ms) (m ∷ without b ms)) ≡ true
    go true f h = h
    go false f h =
        let l : m < suc b = ltb-true m (suc b) (and_left (ltb m (suc b)) _ e) in
        let n : b ≡ m → ⊥ = eqb-false b m f in
        both (lt-ltb m b (omega (arith, l, n))) h

pub few : (b : ℕ) (ms : List ℕ) → all (λ x. ltb x b) ms ≡ true → none_twice ms ≡ true → length ms ≤ b
few zero [] e f = omega arith
few zero (m ∷ ms) e f = absurd (omega (arith, ltb-true m 0 (and_left (ltb m 0) _ e)))
few (suc b) ms e f = omega (arith, one_gone b ms f, few b (without b ms) (lower b ms e) (without_twice b ms f))
