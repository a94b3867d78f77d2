-- Lists of which each has each element as often as the other are permuted, and the other way round.
-- Assumes nothing.
use Prim.Native.Nat.{ℕ, suc}
use native.Mathlib.Omega.{arith}
use mathlib.Core.Path.{◌≡◌, refl, sym, ◌∙◌, ap}
use mathlib.Core.Bool.{Bool, true, false, cond, ◌||◌, false≢true}
use mathlib.Core.List.{List, [], ◌∷◌}
use lib.ListN.{length}
use Rattle.text.specs.Lists.{any, keep}
use Rattle.text.proofs.Permuted.{Permuted, unmoved, front, swapped, further, permuted_back, equal_permuted, keep_permuted, length_permuted}
use Rattle.text.proofs.All.{keep-none, none-all}

abbrev pub often : {A : Type 0} → (A → A → Bool) → A → List A → ℕ
often same x l = length (keep (same x) l)

module _ {A : Type 0} (same : A → A → Bool) (same-equal : (x y : A) → same x y ≡ true → x ≡ y) (same_self : (x : A) → same x x ≡ true) where
  pub permuted_often : {l m : List A} → Permuted l m → (x : A) → often same x l ≡ often same x m
  permuted_often p x = length_permuted (keep_permuted (same x) p)

  remove : A → List A → List A
  remove x [] = []
  remove x (y ∷ m) = cond (same x y) m (y ∷ remove x m)

  removed : (x : A) (m : List A) → any (same x) m ≡ true → Permuted m (x ∷ remove x m)
  unfolding remove
  removed x [] e = absurd (false≢true e)
  removed x (y ∷ m) e = by_cases (same x y) refl e (removed x m)
    where
      by_cases :
          (t : Bool) → same x y ≡ t → t || any (same x) m ≡ true → (any (same x) m ≡ true → Permuted m (x ∷ remove x m))
          → Permuted (y ∷ m) (x ∷ cond t m (y ∷ remove x m))
      by_cases true q e r = equal_permuted (ap (λ (z : A). z ∷ m) (sym (same-equal x y q)))
      by_cases false q e r = further (front y (r e)) (swapped y x (remove x m))

  without-one : (t : Bool) (x : A) (l m : List A) → length (cond t (x ∷ l) l) ≡ length (cond t (x ∷ m) m) → length l ≡ length m
  without-one true x l m e = omega arith
  without-one false x l m e = e

  one_more_often : (x : A) (l : List A) → often same x (x ∷ l) ≡ suc (often same x l)
  one_more_often x l = ap (λ (t : Bool). length (cond t (x ∷ keep (same x) l) (keep (same x) l))) (same_self x)

  occurs : (x : A) (m : List A) (n : ℕ) → often same x m ≡ suc n → any (same x) m ≡ true
  occurs x m n e = by_cases (any (same x) m) refl
    where
      by_cases : (t : Bool) → any (same x) m ≡ t → t ≡ true
      by_cases true q = refl
      by_cases false q = absurd (omega (arith, ap length (keep-none (same x) (none-all (same x) m q)), e))

  pub often_permuted : (l m : List A) → ((x : A) → often same x l ≡ often same x m) → Permuted l m
  often_permuted [] [] h = unmoved
  often_permuted [] (y ∷ m) h = absurd (omega (arith, h y, one_more_often y m))
  often_permuted (x ∷ l) m h =
      let p = removed x m (occurs x m (often same x l) (sym (h x) ∙ one_more_often x l)) in
      further
      (front x
      (often_permuted l (remove x m)
      (λ z. without-one (same z x) x (keep (same z) l) (keep (same z) (remove x m)) (h z ∙ permuted_often p z))))
      (permuted_back p)
