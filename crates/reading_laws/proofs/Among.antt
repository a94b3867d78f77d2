-- Lists of which the elements of another are some, in their order.
-- Assumes nothing.
use Prim.Native.Nat.{ℕ, zero, suc}
use mathlib.Core.Path.{◌≡◌, ap, sym, subst}
use mathlib.Core.List.{List, [], ◌∷◌, ◌++◌}
use mathlib.Core.Option.{some, none-ne-some}
use lib.ListN.{get_elem?}
use Rattle.text.specs.Lists.{gather}
use Rattle.reading_laws.specs.Among.{Among, none, kept, dropped}

module _ {A : Type 0} where
  pub among-all : (xs : List A) → Among xs xs
  among-all [] = none
  among-all (x ∷ xs) = kept (among-all xs)

  pub among_same : {xs ys : List A} → xs ≡ ys → Among xs ys
  among_same {xs} e = subst (Among xs) e (among-all xs)

  pub among_none : (xs : List A) → Among [] xs
  among_none [] = none
  among_none (x ∷ xs) = dropped (among_none xs)

  pub among-append : {xs ys us vs : List A} → Among xs ys → Among us vs → Among (xs ++ us) (ys ++ vs)
  among-append none h = h
  among-append (kept g) h = kept (among-append g h)
  among-append (dropped g) h = dropped (among-append g h)

  pub among_trans : {xs ys zs : List A} → Among xs ys → Among ys zs → Among xs zs
  among_trans g none = g
  among_trans (kept {x = x} {xs = xs} g) (kept {xs = xs'} {ys = ys} h) = kept (among_trans {xs = xs} g h)
  among_trans (dropped g) (kept h) = dropped (among_trans g h)
  among_trans g (dropped h) = dropped (among_trans g h)

  -- before others, and behind them
  pub among_first : (xs ys : List A) → Among xs (xs ++ ys)
  among_first [] ys = among_none ys
  among_first (x ∷ xs) ys = kept (among_first xs ys)

  pub among-last : {xs ys : List A} (us : List A) → Among xs ys → Among xs (us ++ ys)
  among-last [] h = h
  among-last (u ∷ us) h = dropped (among-last us h)

-- what one element of a list has, among what all have
pub among_at : {A B : Type 0} (f : A → List B) (xs : List A) (i : ℕ) (x : A) → get_elem? xs i ≡ some x → Among (f x) (gather f xs)
among_at f [] i x e = absurd (none-ne-some x e)
among_at f (y ∷ xs) zero x e = let same : y ≡ x = cc in among_trans (among_same (ap f (sym same))) (among_first (f y) (gather f xs))
among_at f (y ∷ xs) (suc i) x e = among-last (f y) (among_at f xs i x e)
