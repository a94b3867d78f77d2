-- Lists one after the other: tests of them, those that pass, first occurrences, and lists gathered.
-- Assumes nothing.
use mathlib.Core.List.{List, [], ◌∷◌, ◌++◌, map, append_assoc}
use mathlib.Core.Path.{◌≡◌, refl, sym, ◌∙◌, ap}
use mathlib.Core.Bool.{Bool, true, false, cond, not, ◌||◌}
use Rattle.text.specs.Lists.{any, keep, firsts, gather}

module _ {A : Type 0} where
  pub keep_append : (p : A → Bool) (l m : List A) → keep p (l ++ m) ≡ keep p l ++ keep p m
  keep_append p [] m = refl
  keep_append p (x ∷ l) m = ap (λ (k : List A). cond (p x) (x ∷ k) k) (keep_append p l m) ∙ by_cases (p x)
    where
      by_cases : (t : Bool) → cond t (x ∷ (keep p l ++ keep p m)) (keep p l ++ keep p m) ≡ cond t (x ∷ keep p l) (keep p l) ++ keep p m
      by_cases true = refl
      by_cases false = refl

  pub any_append : (p : A → Bool) (l m : List A) → any p (l ++ m) ≡ any p l || any p m
  any_append p [] m = refl
  any_append p (x ∷ l) m = ap (λ (t : Bool). p x || t) (any_append p l m) ∙ by_cases (p x)
    where
      by_cases : (t : Bool) → t || (any p l || any p m) ≡ (t || any p l) || any p m
      by_cases true = refl
      by_cases false = refl

  -- one more: it stands if none before it is the same
  pub firsts-one_more :
      (same : A → A → Bool) (l : List A) (x : A)
      → firsts same (l ++ x ∷ []) ≡ firsts same l ++ cond (any (λ y. same y x) l) [] (x ∷ [])
  firsts-one_more same [] x = refl
  firsts-one_more same (y ∷ l) x =
      ap
      (λ (m : List A). y ∷ m)
      (ap (keep (λ z. not (same y z))) (firsts-one_more same l x)
      ∙ keep_append (λ z. not (same y z)) (firsts same l) (cond (any (λ z. same z x) l) [] (x ∷ []))
      ∙ ap (λ (m : List A). keep (λ z. not (same y z)) (firsts same l) ++ m) (by_cases (any (λ z. same z x) l) (same y x) refl))
    where
      by_cases : (t s : Bool) → same y x ≡ s → keep (λ z. not (same y z)) (cond t [] (x ∷ [])) ≡ cond (s || t) [] (x ∷ [])
      by_cases true true e = refl
      by_cases true false e = refl
      by_cases false true e = simp e
      by_cases false false e = simp e

module _ {A B : Type 0} where
  pub keep-gather : (p : B → Bool) (f : A → List B) (l : List A) → keep p (gather f l) ≡ gather (λ x. keep p (f x)) l
  keep-gather p f [] = refl
  keep-gather p f (x ∷ l) = keep_append p (f x) (gather f l) ∙ ap (λ (m : List B). keep p (f x) ++ m) (keep-gather p f l)

  pub gather-nothing : (l : List A) → gather {B = B} (λ x. []) l ≡ []
  gather-nothing [] = refl
  gather-nothing (x ∷ l) = gather-nothing l

  pub map-append : (f : A → B) (l m : List A) → map f (l ++ m) ≡ map f l ++ map f m
  map-append f [] m = refl
  map-append f (x ∷ l) m = ap (λ (k : List B). f x ∷ k) (map-append f l m)

module _ {A B C : Type 0} where
  pub map-gather : (g : B → C) (f : A → List B) (l : List A) → map g (gather f l) ≡ gather (λ x. map g (f x)) l
  map-gather g f [] = refl
  map-gather g f (x ∷ l) = map-append g (f x) (gather f l) ∙ ap (λ (m : List C). map g (f x) ++ m) (map-gather g f l)

pub gather_append : {A B : Type 0} (f : A → List B) (l m : List A) → gather f (l ++ m) ≡ gather f l ++ gather f m
gather_append f [] m = refl
gather_append {B = B} f (x ∷ l) m =
    ap (λ (k : List B). f x ++ k) (gather_append f l m) ∙ sym (append_assoc (f x) (gather f l) (gather f m))

pub gather-map : {A B C : Type 0} (f : B → List C) (g : A → B) (l : List A) → gather f (map g l) ≡ gather (λ x. f (g x)) l
gather-map f g [] = refl
gather-map {C = C} f g (x ∷ l) = ap (λ (k : List C). f (g x) ++ k) (gather-map f g l)
