-- The forms of a group in one number: one form more, and whether it was there.
-- Assumes nothing.
use Prim.Native.Nat.{ℕ, zero, suc, ◌+◌, ◌*◌, ◌-◌, ◌/◌, ◌%◌, ◌^◌, ◌≤◌, ◌<◌}
use native.Mathlib.Omega.{arith}
use mathlib.Core.Path.{◌≡◌, refl, sym, ◌∙◌, ap, ap₂}
use mathlib.Core.Bool.{Bool, true, false, cond, not, ◌&&◌}
use mathlib.Core.List.{List, [], ◌∷◌, ◌++◌}
use borrow.Author.Tests.{ne_eqb, eqb-false, lt-ltb}
use lib.Dec.{eqb, ltb}
use lib.ListN.{length, length-append}
use Rattle.text.specs.Bytes.{member_of}
use Rattle.text.specs.Lists.{all}
use Rattle.text.proofs.Tests.{and_left, and_right}
use Rattle.reading_laws.specs.WellFormed.{none_twice}
use Rattle.reading_laws.proofs.Places.{few-places}
use Rattle.read_packs.specs.Packs.{unpack, places, Snug, Joined}
use Rattle.read_packs.proofs.Packed.{no_place, groups}
use Rattle.text.proofs.All.{neither-one}
use Rattle.resolve_merging_few.specs.Listing.{Formed}

-- one more that a list has not
all_more : (p : ℕ → Bool) (l : List ℕ) (x : ℕ) → all p l ≡ true → p x ≡ true → all p (l ++ x ∷ []) ≡ true
all_more p [] x h e = ap (λ (t : Bool). t && true) e
all_more p (y ∷ l) x h e = ap₂ ◌&&◌ (and_left (p y) (all p l) h) (all_more p l x (and_right (p y) (all p l) h) e)

once_more : (l : List ℕ) (x : ℕ) → none_twice l ≡ true → member_of l x ≡ false → none_twice (l ++ x ∷ []) ≡ true
once_more [] x h e = refl
once_more (y ∷ l) x h e =
    let d = neither-one (eqb x y) (member_of l x) e in
    let other : eqb y x ≡ false = ne_eqb y x (λ q. eqb-false x y d.0 (sym q)) in
    ap₂ ◌&&◌
    (all_more (λ z. not (eqb y z)) l x (and_left (all (λ z. not (eqb y z)) l) (none_twice l) h) (ap not other))
    (once_more l x (and_right (all (λ z. not (eqb y z)) l) (none_twice l) h) d.1)

pub forms-none : Formed 0
forms-none =
    let e : places 0 ≡ [] = no_place 0 refl in
    record { snug = rw e (omega arith); below = ap (all (λ x. ltb x 8)) e; once = ap none_twice e }

pub formed_next : {n m r : ℕ} → Formed n → m < 8 → Joined n m r → Formed r
formed_next {n} {m} {r} f h j = by_cases (member_of (places n) m) refl j.all
  where
    by_cases : (t : Bool) → member_of (places n) m ≡ t → places r ≡ cond t (places n) (places n ++ m ∷ []) → Formed r
    by_cases true q e = record { snug = j.snug; below = ap (all (λ x. ltb x 8)) e ∙ f.below; once = ap none_twice e ∙ f.once }
    by_cases false q e = record {
      snug = j.snug;
      below = ap (all (λ x. ltb x 8)) e ∙ all_more (λ x. ltb x 8) (places n) m f.below (lt-ltb m 8 h);
      once = ap none_twice e ∙ once_more (places n) m f.once q;
    }

-- a number of 7 groups at most has 7 forms at most
few-groups : (k n : ℕ) → n < 16 ^ k → length (unpack (suc k) n) ≤ k
unfolding unpack
few-groups zero n h = let z : n ≡ 0 = omega arith in rw z (omega arith)
few-groups (suc k) n h = by_cases (eqb (n % 16) 0) (few-groups k (n / 16) (omega (arith, h)))
  where
    by_cases : (t : Bool) → length (unpack (suc k) (n / 16)) ≤ k → length (cond t [] ((n % 16 - 1) ∷ unpack (suc k) (n / 16))) ≤ suc k
    by_cases true r = omega arith
    by_cases false r = omega (arith, r)

pub few-forms : (n : ℕ) → n < 268435456 → length (places n) ≤ 7
unfolding places
few-forms n h = few-groups 7 n (omega (arith, h))

-- a number of 8 groups has every form
pub all-forms : {n m : ℕ} → Formed n → m < 8 → 268435456 ≤ n → Joined n m n
all-forms {n} {m} f h g = record { all = by_cases (member_of (places n) m) refl; snug = f.snug }
  where
    by_cases : (t : Bool) → member_of (places n) m ≡ t → places n ≡ cond t (places n) (places n ++ m ∷ [])
    by_cases true q = refl
    by_cases false q =
        let most : length (places n ++ m ∷ []) ≤ 8 =
        few-places 8 (places n ++ m ∷ [])
        (all_more (λ x. ltb x 8) (places n) m f.below (lt-ltb m 8 h))
        (once_more (places n) m f.once q) in
        let seven : length (places n) ≤ 7 = omega (arith, most, length-append (places n) (m ∷ [])) in
        absurd (omega (arith, f.snug, groups 7 (length (places n)) seven, g))

-- The number is told by its forms.
abbrev packed : List ℕ → ℕ
packed [] = 0
packed (x ∷ l) = x + 1 + 16 * packed l

unpacked : (k n : ℕ) → n < 16 ^ length (unpack k n) → packed (unpack k n) ≡ n
unfolding unpack
unpacked zero n h = let z : n ≡ 0 = omega arith in sym z
unpacked (suc k) n h = by_cases (unpacked k (n / 16)) (eqb (n % 16) 0) refl h
  where
    by_cases :
        (n / 16 < 16 ^ length (unpack k (n / 16)) → packed (unpack k (n / 16)) ≡ n / 16)
        → (t : Bool) → eqb (n % 16) 0 ≡ t → n < 16 ^ length (cond t [] ((n % 16 - 1) ∷ unpack k (n / 16)))
        → packed (cond t [] ((n % 16 - 1) ∷ unpack k (n / 16))) ≡ n
    by_cases rest true q s = omega arith
    by_cases rest false q s =
        let d : n % 16 ≡ 0 → ⊥ = eqb-false (n % 16) 0 q in
        let b : n < 16 ^ suc (length (unpack k (n / 16))) = s in
        let i : packed (unpack k (n / 16)) ≡ n / 16 = rest (omega (arith, b)) in
        omega (arith, d, i)

packed-places : (n : ℕ) → Snug n → packed (places n) ≡ n
unfolding places
packed-places n h = unpacked 8 n h

-- so one form more gives the number back exactly where the form was there
pub form-there : {n m r : ℕ} → Joined n m r → r ≡ n → member_of (places n) m ≡ true
form-there {n} {m} {r} j same = by_cases (member_of (places n) m) (sym (ap places same) ∙ j.all)
  where
    by_cases : (t : Bool) → places n ≡ cond t (places n) (places n ++ m ∷ []) → t ≡ true
    by_cases true e = refl
    by_cases false e = absurd (omega (arith, ap length e, length-append (places n) (m ∷ [])))

pub form_new : {n m r : ℕ} → Snug n → Joined n m r → (r ≡ n → ⊥) → member_of (places n) m ≡ false
form_new {n} {m} {r} s j other = by_cases (member_of (places n) m) j.all
  where
    by_cases : (t : Bool) → places r ≡ cond t (places n) (places n ++ m ∷ []) → t ≡ false
    by_cases true e = absurd (other (sym (packed-places r j.snug) ∙ ap packed e ∙ packed-places n s))
    by_cases false e = refl
