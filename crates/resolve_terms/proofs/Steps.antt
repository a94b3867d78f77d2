-- A list, one entry after the other: what is asked of those that are left, and what is gathered of them.
-- Assumes nothing.
use Prim.Native.Nat.{ℕ, ◌+◌, ◌<◌}
use mathlib.Core.Path.{◌≡◌, ◌∙◌, ap, sym}
use mathlib.Core.Bool.{Bool, true, false, ◌||◌}
use mathlib.Core.List.{List, [], ◌∷◌, ◌++◌}
use native.Mathlib.Numerals.{add-one}
use lib.ListN.{length, get_or, drop}
use lib.Seq.{drop-cons, drop-length}
use Rattle.text.specs.Lists.{any, gather}

module _ (xs : List ℕ) (i : ℕ) (h : i < length xs) where
  -- the first of those that are left
  next_of : drop i xs ≡ get_or xs i 0 ∷ drop (i + 1) xs
  next_of = drop-cons xs i 0 h ∙ ap (λ (k : ℕ). get_or xs i 0 ∷ drop k xs) (sym (add-one i))

  pub gather-next : (f : ℕ → List ℕ) (bs : List ℕ) → f (get_or xs i 0) ≡ bs → gather f (drop i xs) ≡ bs ++ gather f (drop (i + 1) xs)
  gather-next f bs e = ap (gather f) next_of ∙ ap (λ (x : List ℕ). x ++ gather f (drop (i + 1) xs)) e

module _ (p : ℕ → Bool) (xs : List ℕ) (i : ℕ) where
  pub any_here : i < length xs → p (get_or xs i 0) ≡ true → any p (drop i xs) ≡ true
  any_here h e = ap (any p) (next_of xs i h) ∙ ap (λ (t : Bool). t || any p (drop (i + 1) xs)) e

  pub any-later : i < length xs → p (get_or xs i 0) ≡ false → any p (drop i xs) ≡ any p (drop (i + 1) xs)
  any-later h e = ap (any p) (next_of xs i h) ∙ ap (λ (t : Bool). t || any p (drop (i + 1) xs)) e

  pub any_none : i ≡ length xs → any p (drop i xs) ≡ false
  any_none e = ap (λ (k : ℕ). any p (drop k xs)) e ∙ ap (any p) (drop-length xs)

pub gather_none : (f : ℕ → List ℕ) (xs : List ℕ) (i : ℕ) → i ≡ length xs → gather f (drop i xs) ≡ []
gather_none f xs i e = ap (λ (k : ℕ). gather f (drop k xs)) e ∙ ap (gather f) (drop-length xs)
