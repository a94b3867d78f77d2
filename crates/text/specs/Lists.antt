-- Lists, by tests: whether any or all pass, those that pass, first occurrences, the place of the first that passes, and of the first that
-- clashes with one before it.
use Rattle.std.specs.Prelude.{ℕ, suc, Bool, true, false, cond, not, ◌&&◌, ◌||◌, List, [], ◌∷◌, ◌++◌, eqb}
use Rattle.std.proofs.Math.Option.{Option, some, none}

-- a place one further on
abbrev pub later_by_one : Option ℕ → Option ℕ
later_by_one none = none
later_by_one (some i) = some (suc i)

-- nothing was found
abbrev pub absent : Option ℕ → Bool
absent none = true
absent (some i) = false

module _ {A : Type 0} where
  abbrev pub any : (A → Bool) → List A → Bool
  any p [] = false
  any p (x ∷ xs) = p x || any p xs

  abbrev pub all : (A → Bool) → List A → Bool
  all p [] = true
  all p (x ∷ xs) = p x && all p xs

  abbrev pub keep : (A → Bool) → List A → List A
  keep p [] = []
  keep p (x ∷ xs) = cond (p x) (x ∷ keep p xs) (keep p xs)

  -- "keeps first occurrences"
  abbrev pub firsts : (A → A → Bool) → List A → List A
  firsts same [] = []
  firsts same (x ∷ xs) = x ∷ keep (λ y. not (same x y)) (firsts same xs)

  -- the lowest place of one that passes
  abbrev pub place_in : (A → Bool) → List A → Option ℕ
  place_in p [] = none
  place_in p (x ∷ xs) = cond (p x) (some 0) (later_by_one (place_in p xs))

  -- the lowest place of one that clashes with one before it; `seen` stood before the list, last first
  abbrev pub again_after : (A → A → Bool) → List A → List A → Option ℕ
  again_after clash seen [] = none
  again_after clash seen (x ∷ xs) = cond (any (λ y. clash y x) seen) (some 0) (later_by_one (again_after clash (x ∷ seen) xs))

  abbrev pub again : (A → A → Bool) → List A → Option ℕ
  again clash xs = again_after clash [] xs

-- what each of a list gives, one after the other
abbrev pub gather : {A B : Type 0} → (A → List B) → List A → List B
gather f [] = []
gather f (x ∷ xs) = f x ++ gather f xs

abbrev pub is_nil : {A : Type 0} → List A → Bool
is_nil [] = true
is_nil (x ∷ xs) = false

-- equal byte for byte
abbrev pub same_bytes : List ℕ → List ℕ → Bool
same_bytes [] [] = true
same_bytes [] (y ∷ ys) = false
same_bytes (x ∷ xs) [] = false
same_bytes (x ∷ xs) (y ∷ ys) = eqb x y && same_bytes xs ys
