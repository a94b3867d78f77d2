-- Lists of what is made of each: tests of them, those that pass, first occurrences.
-- Assumes nothing.
use mathlib.Core.Path.{◌≡◌, refl, ◌∙◌, ap}
use mathlib.Core.Bool.{Bool, true, false, cond, not, ◌||◌}
use mathlib.Core.List.{List, [], ◌∷◌, ◌++◌, map}
use Rattle.text.specs.Lists.{any, keep, firsts}

pub append-none : {A : Type 0} (l : List A) → l ++ [] ≡ l
append-none [] = refl
append-none {A} (x ∷ l) = ap (λ (m : List A). x ∷ m) (append-none l)

pub or_false : (t : Bool) → t || false ≡ t
or_false true = refl
or_false false = refl

module _ {A B : Type 0} (f : A → B) where
  pub any-map : (p : B → Bool) (l : List A) → any p (map f l) ≡ any (λ x. p (f x)) l
  any-map p [] = refl
  any-map p (x ∷ l) = ap (λ (t : Bool). p (f x) || t) (any-map p l)

  pub keep-map : (p : B → Bool) (l : List A) → keep p (map f l) ≡ map f (keep (λ x. p (f x)) l)
  keep-map p [] = refl
  keep-map p (x ∷ l) = by_cases (p (f x)) (keep-map p l)
    where
      by_cases :
          (t : Bool) → keep p (map f l) ≡ map f (keep (λ x. p (f x)) l)
          → cond t (f x ∷ keep p (map f l)) (keep p (map f l)) ≡ map f (cond t (x ∷ keep (λ x. p (f x)) l) (keep (λ x. p (f x)) l))
      by_cases true r = ap (λ (m : List B). f x ∷ m) r
      by_cases false r = r

  pub firsts-map : (same : B → B → Bool) (l : List A) → firsts same (map f l) ≡ map f (firsts (λ x y. same (f x) (f y)) l)
  firsts-map same [] = refl
  firsts-map same (x ∷ l) =
      ap (λ (m : List B). f x ∷ keep (λ y. not (same (f x) y)) m) (firsts-map same l)
      ∙ ap (λ (m : List B). f x ∷ m) (keep-map (λ y. not (same (f x) y)) (firsts (λ x y. same (f x) (f y)) l))

pub map-map : {A B C : Type 0} (f : B → C) (g : A → B) (l : List A) → map f (map g l) ≡ map (λ x. f (g x)) l
map-map f g [] = refl
map-map {C = C} f g (x ∷ l) = ap (λ (m : List C). f (g x) ∷ m) (map-map f g l)
