-- Whether any of a list clashes with one before it, in any order.
-- Assumes nothing.
use Prim.Native.Nat.{ℕ}
use mathlib.Core.Path.{◌≡◌, refl, sym, ◌∙◌, ap, ap₂}
use mathlib.Core.Bool.{Bool, true, false, cond, not, ◌&&◌, ◌||◌, false≢true}
use mathlib.Core.List.{List, [], ◌∷◌}
use mathlib.Core.Option.{Option, some, none}
use Rattle.text.specs.Lists.{later_by_one, any, again_after, again, absent}
use Rattle.text.proofs.Bools.{or_swap4}
use Rattle.text.proofs.Permuted.{Permuted, unmoved, front, swapped, further, any_permuted}

pub absent_step : (a : Bool) (o : Option ℕ) → absent (cond a (some 0) (later_by_one o)) ≡ not a && absent o
absent_step true o = refl
absent_step false none = refl
absent_step false (some i) = refl

regroup : (a b c d : Bool) → not a && not ((b || c) || d) ≡ not ((a || c) || (b || d))
regroup true b c d = refl
regroup false true true d = refl
regroup false true false d = refl
regroup false false true d = refl
regroup false false false d = refl

module _ {A : Type 0} where
  pub any_either : (p q : A → Bool) (l : List A) → any (λ x. p x || q x) l ≡ any p l || any q l
  any_either p q [] = refl
  any_either p q (x ∷ l) = ap (λ (t : Bool). (p x || q x) || t) (any_either p q l) ∙ or_swap4 (p x) (q x) (any p l) (any q l)

  pub any_never : (l : List A) → any (λ x. false) l ≡ false
  any_never [] = refl
  any_never (x ∷ l) = any_never l

  -- some two of the list clash
  abbrev pub clashes : (A → A → Bool) → List A → Bool
  clashes r [] = false
  clashes r (x ∷ l) = any (r x) l || clashes r l

  abbrev pub meets : (A → A → Bool) → List A → List A → Bool
  meets r seen l = any (λ x. any (λ y. r y x) seen) l

  pub again_after_lem : (r : A → A → Bool) (seen l : List A) → absent (again_after r seen l) ≡ not (meets r seen l || clashes r l)
  again_after_lem r seen [] = refl
  again_after_lem r seen (x ∷ l) =
      absent_step (any (λ y. r y x) seen) (again_after r (x ∷ seen) l)
      ∙ ap (λ (t : Bool). not (any (λ y. r y x) seen) && t) (again_after_lem r (x ∷ seen) l)
      ∙ ap (λ (t : Bool). not (any (λ y. r y x) seen) && not (t || clashes r l)) (any_either (r x) (λ z. any (λ y. r y z) seen) l)
      ∙ regroup (any (λ y. r y x) seen) (any (r x) l) (meets r seen l) (clashes r l)

  pub again-none : (r : A → A → Bool) (l : List A) → absent (again r l) ≡ not (clashes r l)
  again-none r l = again_after_lem r [] l ∙ ap (λ (t : Bool). not (t || clashes r l)) (any_never l)

pub any-any : {A B : Type 0} (r : A → B → Bool) (l : List A) (m : List B) → any (λ x. any (r x) m) l ≡ any (λ y. any (λ x. r x y) l) m
any-any r [] m = sym (any_never m)
any-any r (x ∷ l) m =
    ap (λ (t : Bool). any (r x) m || t) (any-any r l m) ∙ sym (any_either (r x) (λ y. any (λ x. r x y) l) m)

-- A clash that does not ask which one was first.
module _ {A : Type 0} (r : A → A → Bool) (r-sym : (x y : A) → r x y ≡ r y x) where
  pub clashes_permuted : {l m : List A} → Permuted l m → clashes r l ≡ clashes r m
  clashes_permuted unmoved = refl
  clashes_permuted (front x p) = ap₂ ◌||◌ (any_permuted (r x) p) (clashes_permuted p)
  clashes_permuted (swapped x y l) =
      ap (λ (t : Bool). (t || any (r x) l) || (any (r y) l || clashes r l)) (r-sym x y)
      ∙ or_swap4 (r y x) (any (r x) l) (any (r y) l) (clashes r l)
  clashes_permuted (further p q) = clashes_permuted p ∙ clashes_permuted q

  pub again_permuted : {l m : List A} → Permuted l m → absent (again r l) ≡ absent (again r m)
  again_permuted {l} {m} p = again-none r l ∙ ap not (clashes_permuted p) ∙ sym (again-none r m)

-- None comes again where none clash, and the other way round.
module _ {A : Type 0} (r : A → A → Bool) (l : List A) where
  pub never_again : clashes r l ≡ false → again r l ≡ none
  never_again e = by_cases (again r l) (again-none r l ∙ ap not e)
    where
      by_cases : (o : Option ℕ) → absent o ≡ true → o ≡ none
      by_cases none h = refl
      by_cases (some i) h = absurd (false≢true h)

  pub never_clash : again r l ≡ none → clashes r l ≡ false
  never_clash e = by_cases (clashes r l) (sym (again-none r l) ∙ ap absent e)
    where
      by_cases : (t : Bool) → not t ≡ true → t ≡ false
      by_cases true h = absurd (false≢true h)
      by_cases false h = refl
