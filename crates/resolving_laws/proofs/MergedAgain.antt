-- What ground statements bring again: all the effects in their groups, the same statements, and nothing dropped.
-- Assumes nothing.
use Prim.Native.Nat.{ℕ, suc}
use mathlib.Core.Path.{◌≡◌, refl, ◌∙◌, ap, ap₂, fun_ext}
use mathlib.Core.Bool.{true}
use mathlib.Core.List.{List, [], ◌∷◌, ◌++◌, map, append-nil}
use Rattle.reading.specs.Statement.{Feature, Statement, feature}
use Rattle.text.specs.Lists.{gather}
use Rattle.resolving.specs.Effects.{Effect}
use Rattle.resolving.specs.Brought.{Brought, defining, dropped, stays, brings}
use Rattle.resolving.specs.Merging.{remains, overridden, remaining}
use Rattle.resolving.specs.Ground.{Group, groups, staying}
use Rattle.resolving.specs.Resolve.{dropped_from}
use Rattle.text.proofs.Appended.{gather_append, gather-map, gather-nothing}
use Rattle.resolving_laws.proofs.Regrouped.{block, in_groups}
use Rattle.resolving_laws.proofs.BroughtAgain.{brought_again, stayed}

-- what is nothing of statements that stay, and all effects of explicit ones
module _ (bs : List Brought) (es : List Effect) where
  staying-none : (f : Brought → List Effect) → ((x : Feature) → f (stays x) ≡ []) → (bs : List Brought) → gather f (gather stayed bs) ≡ []
  staying-none f h [] = refl
  staying-none f h (defining ∷ bs) = staying-none f h bs
  staying-none f h (dropped ∷ bs) = staying-none f h bs
  staying-none f h (stays x ∷ bs) = ap₂ ◌++◌ (h x) (staying-none f h bs)
  staying-none f h (brings x es ∷ bs) = staying-none f h bs

  pub effects-again :
      (f : Brought → List Effect) → ((x : Feature) → f (stays x) ≡ []) → ((l : List Effect) → f (brings true l) ≡ l)
      → gather f (brought_again bs es) ≡ in_groups es
  effects-again f h k =
      gather_append f (gather stayed bs) (map (λ g. brings true (block es g)) (groups es))
      ∙ ap₂ ◌++◌
      (staying-none f h bs)
      (gather-map f (λ g. brings true (block es g)) (groups es)
      ∙ ap (λ (b : Group → List Effect). gather b (groups es)) (fun_ext (λ g. k (block es g))))

  pub remaining-again : remaining (brought_again bs es) ≡ in_groups es
  remaining-again = effects-again (remains (overridden (brought_again bs es))) (λ x. refl) (λ l. refl)

  pub staying-again : gather staying (brought_again bs es) ≡ gather staying bs
  staying-again =
      gather_append staying (gather stayed bs) (map (λ g. brings true (block es g)) (groups es))
      ∙ ap₂ ◌++◌ (stayed-stay bs) (gather-map staying (λ g. brings true (block es g)) (groups es) ∙ gather-nothing (groups es))
      ∙ append-nil (gather staying bs)
    where
      stayed-stay : (bs : List Brought) → gather staying (gather stayed bs) ≡ gather staying bs
      stayed-stay [] = refl
      stayed-stay (defining ∷ bs) = stayed-stay bs
      stayed-stay (dropped ∷ bs) = stayed-stay bs
      stayed-stay (stays x ∷ bs) = ap (λ (l : List Statement). feature x ∷ l) (stayed-stay bs)
      stayed-stay (brings x es ∷ bs) = stayed-stay bs

-- nothing is dropped

dropped-none : (i : ℕ) (gs : List Group) (f : Group → List Effect) → dropped_from i (map (λ g. brings true (f g)) gs) ≡ []
dropped-none i [] f = refl
dropped-none i (g ∷ gs) f = dropped-none (suc i) gs f

none_dropped : (i : ℕ) (bs ds : List Brought) → ((j : ℕ) → dropped_from j ds ≡ []) → dropped_from i (gather stayed bs ++ ds) ≡ []
none_dropped i [] ds h = h i
none_dropped i (defining ∷ bs) ds h = none_dropped i bs ds h
none_dropped i (dropped ∷ bs) ds h = none_dropped i bs ds h
none_dropped i (stays x ∷ bs) ds h = none_dropped (suc i) bs ds h
none_dropped i (brings x es ∷ bs) ds h = none_dropped i bs ds h

pub none-dropped-again : (bs : List Brought) (es : List Effect) → dropped_from 0 (brought_again bs es) ≡ []
none-dropped-again bs es =
    none_dropped 0 bs (map (λ g. brings true (block es g)) (groups es)) (λ j. dropped-none j (groups es) (block es))
