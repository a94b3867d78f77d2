-- First occurrences: none stands twice.
-- Assumes nothing.
use mathlib.Core.Path.{◌≡◌, refl, ◌∙◌, ap, ap₂}
use mathlib.Core.Bool.{Bool, true, false, cond, not, ◌||◌}
use mathlib.Core.List.{List, [], ◌∷◌}
use borrow.Author.Tests.{not-true}
use Rattle.text.specs.Lists.{any, keep, firsts}
use Rattle.text.proofs.All.{neither-one, all_keep, all_of, all_weaker, none-all, all_none, keep_all}
use Rattle.text.proofs.Clashing.{clashes}

module _ {A : Type 0} where
  -- a test that none of a list passes, none of those kept does
  pub any-keep : (p q : A → Bool) (l : List A) → any p l ≡ false → any p (keep q l) ≡ false
  any-keep p q l e = all_none p (all_weaker (λ x h. h.1) (all_keep q (none-all p l e)))

  pub clashes_keep : (r : A → A → Bool) (q : A → Bool) (l : List A) → clashes r l ≡ false → clashes r (keep q l) ≡ false
  clashes_keep r q [] e = refl
  clashes_keep r q (x ∷ l) e =
      let h = neither-one (any (r x) l) (clashes r l) e in
      by_cases (q x) (any-keep (r x) q l h.0) (clashes_keep r q l h.1)
    where
      by_cases : (t : Bool) → any (r x) (keep q l) ≡ false → clashes r (keep q l) ≡ false → clashes r (cond t (x ∷ keep q l) (keep q l)) ≡ false
      by_cases true f g = ap₂ ◌||◌ f g
      by_cases false f g = g

module _ {A : Type 0} (same : A → A → Bool) where
  pub firsts-once : (l : List A) → clashes same (firsts same l) ≡ false
  firsts-once [] = refl
  firsts-once (x ∷ l) =
      ap₂ ◌||◌
      (all_none (same x)
      (all_weaker (λ y h. not-true (same x y) h.0) (all_keep (λ y. not (same x y)) (all_of {P = λ y. y ≡ y} (λ y. refl) (firsts same l)))))
      (clashes_keep same (λ y. not (same x y)) (firsts same l) (firsts-once l))

  pub once-firsts : (l : List A) → clashes same l ≡ false → firsts same l ≡ l
  once-firsts [] e = refl
  once-firsts (x ∷ l) e =
      let h = neither-one (any (same x) l) (clashes same l) e in
      ap
      (λ (m : List A). x ∷ m)
      (ap (keep (λ y. not (same x y))) (once-firsts l h.1)
      ∙ keep_all (λ y. not (same x y)) (all_weaker (λ y k. ap not k) (none-all (same x) l h.0)))
