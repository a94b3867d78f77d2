-- Tests joined by `|`, from the left, as a list of words is tested.
-- Assumes nothing.
use mathlib.Core.Path.{◌≡◌, refl, sym, ◌∙◌, ap}
use mathlib.Core.Bool.{Bool, true, false, ◌||◌, or-false}
use mathlib.Core.List.{List, [], ◌∷◌, map}
use Rattle.text.specs.Lists.{any}

abbrev joined_to : Bool → List Bool → Bool
joined_to t [] = t
joined_to t (u ∷ us) = joined_to (t || u) us

abbrev joined : List Bool → Bool
joined [] = false
joined (t ∷ ts) = joined_to t ts

regroup : (a b c : Bool) → ((a || b) || c) ≡ (a || (b || c))
regroup true b c = refl
regroup false b c = refl

module _ {A : Type 0} (p : A → Bool) where
  joined-any : (t : Bool) (xs : List A) → joined_to t (map p xs) ≡ t || any p xs
  joined-any t [] = sym (or-false t)
  joined-any t (x ∷ xs) = joined-any (t || p x) xs ∙ regroup t (p x) (any p xs)

  pub any_of : (xs : List A) (ts : List Bool) → ts ≡ map p xs → joined ts ≡ any p xs
  any_of [] ts e = ap joined e
  any_of (x ∷ xs) ts e = ap joined e ∙ joined-any (p x) xs
