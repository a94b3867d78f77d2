-- Laws of lists of modes in one number.
-- Assumes nothing.
use Prim.Native.Nat.{ℕ, zero, suc, ◌+◌, ◌*◌, ◌-◌, ◌/◌, ◌%◌, ◌^◌, ◌≤◌, ◌<◌}
use native.Mathlib.Omega.{arith}
use mathlib.Core.Path.{◌≡◌, refl, ◌∙◌, ap, sym}
use mathlib.Core.Bool.{Bool, true, false, cond}
use mathlib.Core.List.{List, [], ◌∷◌, ◌++◌}
use borrow.Author.Tests.{eq-eqb, ne_eqb, eqb-true, eqb-false}
use lib.Dec.{eqb}
use lib.ListN.{length, length-append}
use Rattle.text.specs.Bytes.{member_of}
use Rattle.read_packs.specs.Packs.{unpack, places, with_mode, Snug, Joined}

-- more groups than a number has tell nothing more
enough : (k n : ℕ) → n < 16 ^ k → unpack (suc k) n ≡ unpack k n
unfolding unpack
enough zero n h = let z : n ≡ 0 = omega arith in rw z
enough (suc k) n h =
    let s : n / 16 < 16 ^ k = omega arith in
    ap (λ (l : List ℕ). cond (eqb (n % 16) 0) [] ((n % 16 - 1) ∷ l)) (enough k (n / 16) s)

pub no_place : (n : ℕ) → n % 16 ≡ 0 → places n ≡ []
unfolding places unpack
no_place n e = simp (eq-eqb (n % 16) 0 e)

pub next_place : (n : ℕ) → n < 4294967296 → (n % 16 ≡ 0 → ⊥) → places n ≡ (n % 16 - 1) ∷ places (n / 16)
unfolding places unpack
next_place n h e =
    let s : n / 16 < 16 ^ 7 = omega arith in
    simp (ne_eqb (n % 16) 0 e) (ap (λ (l : List ℕ). (n % 16 - 1) ∷ l) (sym (enough 7 (n / 16) s)))

-- one mode more
pub with_first : (x : ℕ) (xs : List ℕ) → with_mode (x ∷ xs) x ≡ x ∷ xs
with_first x xs = simp (eq-eqb x x refl)

pub with_other : (x m : ℕ) (xs : List ℕ) → (m ≡ x → ⊥) → with_mode (x ∷ xs) m ≡ x ∷ with_mode xs m
with_other x m xs e = rw (ne_eqb m x e) (go (member_of xs m))
  where
    go : (t : Bool) → cond t (x ∷ xs) (x ∷ xs ++ m ∷ []) ≡ x ∷ cond t xs (xs ++ m ∷ [])
    go true = refl
    go false = refl

pub with_most : (m : ℕ) (xs : List ℕ) → length (with_mode xs m) ≤ suc (length xs)
with_most m [] = omega arith
with_most m (x ∷ xs) = go (member_of (x ∷ xs) m)
  where
    go : (t : Bool) → length (cond t (x ∷ xs) (x ∷ xs ++ m ∷ [])) ≤ suc (length (x ∷ xs))
    go true = omega arith
    go false = omega (arith, length-append xs (m ∷ []))

pub groups : (k j : ℕ) → j ≤ k → 16 ^ j ≤ 16 ^ k
groups zero zero h = omega arith
groups zero (suc j) h = absurd (omega arith)
groups (suc k) zero h = let i = groups k zero (omega arith) in omega arith
groups (suc k) (suc j) h = let i = groups k j (omega arith) in omega arith

pub alone : (n m : ℕ) → n % 16 ≡ 0 → m < 15 → Joined n m (m + 1)
alone n m e h =
    let d : (m + 1) % 16 - 1 ≡ m = omega arith in
    let q : (m + 1) / 16 ≡ 0 = omega arith in
    let p : places (m + 1) ≡ m ∷ [] =
    next_place (m + 1) (omega arith) (omega arith) ∙ rw (d, q) (ap (λ (l : List ℕ). m ∷ l) (no_place 0 refl)) in
    record { all = p ∙ rw (no_place n e); snug = rw p (omega arith) }

module _ (n : ℕ) (h : n < 4294967296) (e : n % 16 ≡ 0 → ⊥) where
  pub same : (m : ℕ) → n % 16 ≡ m + 1 → Snug n → Joined n m n
  same m q s =
      let d : n % 16 - 1 ≡ m = omega arith in
      let p : places n ≡ m ∷ places (n / 16) = rw d at (next_place n h e) in
      record { all = rw p (sym (with_first m (places (n / 16)))); snug = s }

  pub one_shorter : length (places n) ≡ suc (length (places (n / 16)))
  one_shorter = rw (next_place n h e)

  pub rest-snug : Snug n → Snug (n / 16)
  rest-snug s = let b : n < 16 ^ suc (length (places (n / 16))) = rw one_shorter at s in omega arith

  module _ {m r : ℕ} (j : Joined (n / 16) m r) (l : length (places n) ≤ 7) where
    pub inner-fits : r < 268435456
    inner-fits =
        let a : length (places r) ≤ 7 = rw j.all (omega (arith, with_most m (places (n / 16)), one_shorter)) in
        omega (arith, j.snug, groups 7 (length (places r)) a)

    pub joined : (n % 16 ≡ m + 1 → ⊥) → Joined n m (n % 16 + 16 * r)
    joined k =
        let f = inner-fits in
        let d : (n % 16 + 16 * r) % 16 ≡ n % 16 = omega arith in
        let q : (n % 16 + 16 * r) / 16 ≡ r = omega arith in
        let p : places (n % 16 + 16 * r) ≡ (n % 16 - 1) ∷ places r =
        rw (d, q) at (next_place (n % 16 + 16 * r) (omega arith) (omega arith)) in
        let b : n % 16 + 16 * r < 16 ^ suc (length (places r)) = omega (arith, j.snug) in
        record {
          all = p ∙ ap (λ (t : List ℕ). (n % 16 - 1) ∷ t) j.all ∙ sym (rw (next_place n h e) (with_other (n % 16 - 1) m (places (n / 16)) (λ x. omega arith)));
          snug = rw p b;
        }

pub no_one : (n : ℕ) → n % 16 ≡ 0 → false ≡ eqb (length (places n)) 1
no_one n e = rw (no_place n e)

pub is_one : (n : ℕ) → n < 4294967296 → (n % 16 ≡ 0 → ⊥) → eqb (n / 16 % 16) 0 ≡ eqb (length (places n)) 1
is_one n h e = rw (next_place n h e) (go (eqb (n / 16 % 16) 0) refl)
  where
    go : (t : Bool) → eqb (n / 16 % 16) 0 ≡ t → t ≡ eqb (suc (length (places (n / 16)))) 1
    go true f = rw (no_place (n / 16) (eqb-true (n / 16 % 16) 0 f))
    go false f = rw (next_place (n / 16) (omega arith) (eqb-false (n / 16 % 16) 0 f)) (sym (ne_eqb (suc (suc (length (places (n / 16 / 16))))) 1 (λ q. omega arith)))
