-- Lists: what holds of each of the elements.
-- Assumes nothing.
use mathlib.Core.Path.{◌≡◌, refl, ◌∙◌, ap, sym}
use mathlib.Core.Bool.{Bool, true, false, ◌||◌, false≢true}
use mathlib.Core.List.{List, [], ◌∷◌, map}
use Prim.Native.Nat.{ℕ, zero, suc, ◌+◌, ◌<◌}
use native.Mathlib.Nat.{add-zero, add-suc, suc-add, le_of_suc-le-suc, not-suc-le-zero}
use native.Mathlib.Omega.{arith}
use borrow.Author.Tests.{eqb-true}
use lib.Dec.{eqb}
use lib.ListN.{length, get_or, get_or-map}
use Rattle.text.specs.Bytes.{member_of, every, count_up}
use Rattle.text.proofs.Tests.{and_left, and_right}

-- functions that agree on the elements of a list agree at each of them
pub agree : {A B : Type 0} (g h : A → B) (xs : List A) (d : A) (i : ℕ) → map g xs ≡ map h xs → g d ≡ h d → g (get_or xs i d) ≡ h (get_or xs i d)
agree {A} {B} g h xs d i e f =
    sym (get_or-map g xs i d) ∙ ap (λ (l : List B). get_or l i (g d)) e ∙ ap (get_or (map h xs) i) f ∙ get_or-map h xs i d

-- a test that all the bytes of a list pass is passed by each
pub every_member : (q : ℕ → Bool) (xs : List ℕ) (b : ℕ) → every q xs ≡ true → member_of xs b ≡ true → q b ≡ true
every_member q [] b e m = absurd (false≢true m)
every_member q (x ∷ xs) b e m =
    go (eqb b x) refl m (λ h. every_member q xs b (and_right (q x) (every q xs) e) h)
  where
    go : (t : Bool) → eqb b x ≡ t → (t || member_of xs b) ≡ true → (member_of xs b ≡ true → q b ≡ true) → q b ≡ true
    go true t m h = ap q (eqb-true b x t) ∙ and_left (q x) (every q xs) e
    go false t m h = h m

-- the numbers that are counted up from one: how many they are, and what stands for the one at a place
pub count_up-length : (i n : ℕ) → length (count_up i n) ≡ n
count_up-length i zero = refl
count_up-length i (suc n) = ap suc (count_up-length (suc i) n)

pub count_up_at : {A : Type 0} (f : ℕ → A) (d : A) (i n k : ℕ) → k < n → get_or (map f (count_up i n)) k d ≡ f (i + k)
count_up_at f d i zero k h = absurd (not-suc-le-zero h)
count_up_at f d i (suc n) zero h = ap f (sym (add-zero i))
count_up_at f d i (suc n) (suc k) h = count_up_at f d (suc i) n k (le_of_suc-le-suc h) ∙ ap f (suc-add i k ∙ sym (add-suc i k))

pub count_up-every : (p : ℕ → Bool) (i n k : ℕ) → every p (count_up i n) ≡ true → k < n → p (i + k) ≡ true
count_up-every p i zero k e h = absurd (not-suc-le-zero h)
count_up-every p i (suc n) zero e h = rw (add-zero i) (and_left (p i) (every p (count_up (suc i) n)) e)
count_up-every p i (suc n) (suc k) e h =
    let next : i + suc k ≡ suc i + k = omega arith in
    rw next (count_up-every p (suc i) n k (and_right (p i) (every p (count_up (suc i) n)) e) (le_of_suc-le-suc h))
