-- What holds of each of a list, and what passes no test.
-- Assumes nothing.
use mathlib.Core.Path.{◌≡◌, refl, ap, ap₂}
use mathlib.Core.Bool.{Bool, true, false, cond, not, ◌||◌, true≢false}
use mathlib.Core.List.{List, [], ◌∷◌, ◌++◌, map}
use Rattle.text.specs.Lists.{any, keep, firsts, gather}
use Rattle.text.proofs.Permuted.{Permuted, front, swapped, further, unmoved}

pub data All {A : Type 0} (P : A → Type 0) : List A → Type 0 where
  finished : All P []
  also : {x : A} {l : List A} → P x → All P l → All P (x ∷ l)

pub neither-one : (a b : Bool) → a || b ≡ false → (a ≡ false) × (b ≡ false)
neither-one true b e = absurd (true≢false e)
neither-one false b e = (refl, e)

module _ {A : Type 0} {P : A → Type 0} where
  pub all_weaker : {Q : A → Type 0} → ((x : A) → P x → Q x) → {l : List A} → All P l → All Q l
  all_weaker h finished = finished
  all_weaker h (also {x} p r) = also (h x p) (all_weaker h r)

  pub all_of : ((x : A) → P x) → (l : List A) → All P l
  all_of h [] = finished
  all_of h (x ∷ l) = also (h x) (all_of h l)

  pub all_append : {l m : List A} → All P l → All P m → All P (l ++ m)
  all_append finished s = s
  all_append (also p r) s = also p (all_append r s)

  -- Those that pass a test pass it, and what held of each still does.
  pub all_keep : (p : A → Bool) {l : List A} → All P l → All (λ x. (p x ≡ true) × P x) (keep p l)
  all_keep p finished = finished
  all_keep p (also {x} {l} h r) = by_cases (p x) refl (all_keep p r)
    where
      by_cases : (t : Bool) → p x ≡ t → All (λ x. (p x ≡ true) × P x) (keep p l) → All (λ x. (p x ≡ true) × P x) (cond t (x ∷ keep p l) (keep p l))
      by_cases true e s = also (e, h) s
      by_cases false e s = s

  pub all_firsts : (same : A → A → Bool) {l : List A} → All P l → All P (firsts same l)
  all_firsts same finished = finished
  all_firsts same (also {x} h r) = also h (without (all_keep (λ y. not (same x y)) (all_firsts same r)))
    where
      without : {p : A → Bool} {l : List A} → All (λ x. (p x ≡ true) × P x) l → All P l
      without finished = finished
      without (also h r) = also h.1 (without r)

  pub all_permuted : {l m : List A} → Permuted l m → All P l → All P m
  all_permuted unmoved finished = finished
  all_permuted (front x p) (also h r) = also h (all_permuted p r)
  all_permuted (swapped x y l) (also h (also k r)) = also k (also h r)
  all_permuted (further p q) r = all_permuted q (all_permuted p r)

  -- two things that hold
  pub all_both : {Q : A → Type 0} {l : List A} → All P l → All Q l → All (λ x. P x × Q x) l
  all_both finished finished = finished
  all_both (also h r) (also k s) = also (h, k) (all_both r s)

  pub all_map : {B : Type 0} {Q : B → Type 0} (f : A → B) → ((x : A) → P x → Q (f x)) → {l : List A} → All P l → All Q (map f l)
  all_map f h finished = finished
  all_map f h (also {x} p r) = also (h x p) (all_map f h r)

  pub all-gather : {B : Type 0} {Q : B → Type 0} (f : A → List B) → ((x : A) → P x → All Q (f x)) → {l : List A} → All P l → All Q (gather f l)
  all-gather f h finished = finished
  all-gather f h (also {x} p r) = joined (h x p) (all-gather f h r)
    where
      joined : {B : Type 0} {Q : B → Type 0} {l m : List B} → All Q l → All Q m → All Q (l ++ m)
      joined finished s = s
      joined (also p r) s = also p (joined r s)

module _ {A : Type 0} where
  -- A test that none passes.
  pub none-all : (p : A → Bool) (l : List A) → any p l ≡ false → All (λ x. p x ≡ false) l
  none-all p [] e = finished
  none-all p (x ∷ l) e = let h = neither-one (p x) (any p l) e in also h.0 (none-all p l h.1)

  pub all_none : (p : A → Bool) {l : List A} → All (λ x. p x ≡ false) l → any p l ≡ false
  all_none p finished = refl
  all_none p (also h r) = ap₂ ◌||◌ h (all_none p r)

  pub keep_all : (p : A → Bool) {l : List A} → All (λ x. p x ≡ true) l → keep p l ≡ l
  keep_all p finished = refl
  keep_all p (also {x} {l} h r) = ap₂ (λ (t : Bool) (m : List A). cond t (x ∷ m) m) h (keep_all p r)

  pub keep-none : (p : A → Bool) {l : List A} → All (λ x. p x ≡ false) l → keep p l ≡ []
  keep-none p finished = refl
  keep-none p (also {x} {l} h r) = ap₂ (λ (t : Bool) (m : List A). cond t (x ∷ m) m) h (keep-none p r)

  -- equal on each of the list
  pub map_each : {B : Type 0} (f g : A → B) {l : List A} → All (λ x. f x ≡ g x) l → map f l ≡ map g l
  map_each f g finished = refl
  map_each f g (also h r) = ap₂ ◌∷◌ h (map_each f g r)

  pub gather-each : {B : Type 0} (f g : A → List B) {l : List A} → All (λ x. f x ≡ g x) l → gather f l ≡ gather g l
  gather-each f g finished = refl
  gather-each f g (also h r) = ap₂ ◌++◌ h (gather-each f g r)

-- What is of the list.
module _ {A : Type 0} (same : A → A → Bool) (same_self : (x : A) → same x x ≡ true) where
  pub all_members : {P : A → Type 0} (l : List A) → ((x : A) → any (same x) l ≡ true → P x) → All P l
  all_members [] h = finished
  all_members {P} (y ∷ l) h = also (h y (ap (λ (t : Bool). t || any (same y) l) (same_self y))) (all_members l (λ x e. h x (later x e)))
    where
      later : (x : A) → any (same x) l ≡ true → same x y || any (same x) l ≡ true
      later x e = by_cases (same x y)
        where
          by_cases : (t : Bool) → t || any (same x) l ≡ true
          by_cases true = refl
          by_cases false = e
