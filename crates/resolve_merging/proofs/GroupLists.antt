-- Lists of groups: each is its own group's number, none stands twice, and each effect's group stands there.
-- Assumes nothing.
use Prim.Native.Nat.{ℕ, zero, suc, ◌+◌, ◌*◌, ◌/◌, ◌%◌, ◌<◌}
use native.Mathlib.Omega.{arith}
use mathlib.Core.Path.{◌≡◌, refl, sym, ◌∙◌, ap}
use mathlib.Core.Bool.{Bool, true, false, ◌||◌, true≢false}
use mathlib.Core.List.{List, [], ◌∷◌, map}
use borrow.Author.Tests.{eq-eqb, eqb-true, eqb-false}
use lib.Dec.{eqb}
use lib.ListN.{length, get_or}
use Rattle.text.specs.Lists.{any}
use Rattle.text.proofs.All.{All, finished, also, neither-one, all_of, all_map, all_firsts}
use Rattle.text.proofs.Clashing.{clashes}
use Rattle.text.proofs.Runs.{any-firsts}
use Rattle.resolve_merging.specs.Packing.{pair_of, group_number}
use Rattle.resolve_merging.specs.Runs.{groups_in}

pub all_at : {P : ℕ → Type 0} {l : List ℕ} → All P l → (i : ℕ) → i < length l → P (get_or l i 0)
all_at finished i h = absurd (omega arith)
all_at (also p r) zero h = p
all_at (also p r) (suc i) h = all_at r i (omega arith)

pub group-again : (w : ℕ) → group_number (group_number w) ≡ group_number w
group-again w = let h : w % 4 < 4 = omega arith in let k : w / 32 % 4096 < 4096 = omega arith in twice (w / 32 % 4096) (w % 4) k h
  where
    twice : (q r : ℕ) → q < 4096 → r < 4 → (q * 32 + r) / 32 % 4096 * 32 + (q * 32 + r) % 4 ≡ q * 32 + r
    twice q r k h = omega arith

pub group_pair : (w : ℕ) → pair_of (group_number w) ≡ pair_of w
group_pair w = let h : w % 4 < 4 = omega arith in let k : w / 32 % 4096 < 4096 = omega arith in pair (w / 32 % 4096) (w % 4) k h
  where
    pair : (q r : ℕ) → q < 4096 → r < 4 → (q * 32 + r) / 32 % 4096 ≡ q
    pair q r k h = omega arith

pub group_low : (w : ℕ) → group_number w % 4 ≡ w % 4
group_low w = let h : w % 4 < 4 = omega arith in low (w / 32 % 4096) (w % 4) h
  where
    low : (q r : ℕ) → r < 4 → (q * 32 + r) % 4 ≡ r
    low q r h = omega arith

pub group-numbers : (l : List ℕ) (j : ℕ) → j < length (groups_in l) → group_number (get_or (groups_in l) j 0) ≡ get_or (groups_in l) j 0
group-numbers l j h =
    all_at {P = λ g. group_number g ≡ g}
    (all_firsts eqb (all_map group_number (λ x e. group-again x) (all_of {P = λ x. x ≡ x} (λ x. refl) l)))
    j
    h

none_at : (p : ℕ → Bool) (l : List ℕ) (j : ℕ) → any p l ≡ false → j < length l → p (get_or l j 0) ≡ false
none_at p [] j e h = absurd (omega arith)
none_at p (x ∷ l) zero e h = (neither-one (p x) (any p l) e).0
none_at p (x ∷ l) (suc j) e h = none_at p l j (neither-one (p x) (any p l) e).1 (omega arith)

pub apart : (l : List ℕ) → clashes eqb l ≡ false → (i j : ℕ) → i < length l → j < length l → get_or l i 0 ≡ get_or l j 0 → i ≡ j
apart [] c i j h g e = absurd (omega arith)
apart (x ∷ l) c zero zero h g e = refl
apart (x ∷ l) c zero (suc j) h g e =
    absurd (eqb-false x (get_or l j 0) (none_at (eqb x) l j (neither-one (any (eqb x) l) (clashes eqb l) c).0 (omega arith)) e)
apart (x ∷ l) c (suc i) zero h g e =
    absurd (eqb-false x (get_or l i 0) (none_at (eqb x) l i (neither-one (any (eqb x) l) (clashes eqb l) c).0 (omega arith)) (sym e))
apart (x ∷ l) c (suc i) (suc j) h g e =
    ap suc (apart l (neither-one (any (eqb x) l) (clashes eqb l) c).1 i j (omega arith) (omega arith) e)

-- where one of a list stands
pub record Stands (l : List ℕ) (x : ℕ) : Type 0 where
  pub index : ℕ
  pub within : index < length l
  pub there : get_or l index 0 ≡ x

stands : (l : List ℕ) (x : ℕ) → any (λ y. eqb y x) l ≡ true → Stands l x
stands [] x e = absurd (true≢false (sym e))
stands (y ∷ l) x e = by_cases (eqb y x) refl e (λ f. stands l x f)
  where
    by_cases : (t : Bool) → eqb y x ≡ t → t || any (λ y. eqb y x) l ≡ true → (any (λ y. eqb y x) l ≡ true → Stands l x) → Stands (y ∷ l) x
    by_cases true q f r = record { index = 0; within = omega arith; there = eqb-true y x q }
    by_cases false q f r = let s = r f in record { index = suc s.index; within = omega (arith, s.within); there = s.there }

member_at : (l : List ℕ) (i : ℕ) → i < length l → any (λ y. eqb y (group_number (get_or l i 0))) (map group_number l) ≡ true
member_at [] i h = absurd (omega arith)
member_at (w ∷ l) zero h = rw (eq-eqb (group_number w) (group_number w) refl)
member_at (w ∷ l) (suc i) h = either (eqb (group_number w) (group_number (get_or l i 0))) (member_at l i (omega arith))
  where
    either : (t : Bool) → any (λ y. eqb y (group_number (get_or l i 0))) (map group_number l) ≡ true
        → t || any (λ y. eqb y (group_number (get_or l i 0))) (map group_number l) ≡ true
    either true e = refl
    either false e = e

pub group-stands_at : (l : List ℕ) (i : ℕ) → i < length l → Stands (groups_in l) (group_number (get_or l i 0))
group-stands_at l i h =
    stands (groups_in l) (group_number (get_or l i 0))
    (any-firsts eqb eqb-true (λ y. eqb y (group_number (get_or l i 0))) (map group_number l) ∙ member_at l i h)
