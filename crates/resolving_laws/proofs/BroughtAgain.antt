-- Ground statements, brought again: those that stay bring themselves, and each group its own effects.
-- Assumes nothing.
use mathlib.Core.Path.{◌≡◌, refl}
use mathlib.Core.Bool.{true, false}
use mathlib.Core.List.{List, [], ◌∷◌, ◌++◌, map}
use Rattle.reading.specs.Answer.{Answer, accepted, ◌>>=◌}
use Rattle.text.specs.Lists.{gather}
use Rattle.resolving.specs.Context.{Context}
use Rattle.resolving.specs.Symbols.{Meaning}
use Rattle.resolving.specs.Effects.{Effect}
use Rattle.resolving.specs.Brought.{Brought, defining, dropped, stays, brings, bring, each_from}
use Rattle.resolving.specs.Ground.{Group, same_group, group_of, groups, forms_in, ground_covariate, staying, ground}
use Rattle.text.proofs.All.{All, finished, also, all_weaker, all_of, all_append, all_firsts, all_map}
use Rattle.resolving_laws.proofs.Passed.{Each, none_asked, answered, each_answered}
use Rattle.resolving_laws.proofs.SymbolLaws.{is_let}
use Rattle.resolving_laws.proofs.Stands.{Written, Suited, Stands, stands-dropped, stands-effects, stands_itself, stands-defining}
use Rattle.resolving_laws.proofs.Regrouped.{block}
use Rattle.resolving_laws.proofs.GroupAgain.{group-brings}

each_append :
    {A B : Type 0} {f : A → Answer B} {l l' : List A} {m m' : List B} → Each f l m → Each f l' m' → Each f (l ++ l') (m ++ m')
each_append none_asked s = s
each_append (answered h r) s = answered h (each_append r s)

abbrev pub stayed : Brought → List Brought
stayed defining = []
stayed dropped = []
stayed (stays f) = stays f ∷ []
stayed (brings x es) = []

abbrev pub brought_again : List Brought → List Effect → List Brought
brought_again bs es = gather stayed bs ++ map (λ g. brings true (block es g)) (groups es)

module _ (c : Context) (look : Meaning) where
  stayed_each : {bs : List Brought} → All (Stands c) bs → Each (bring c look) (gather staying bs) (gather stayed bs)
  unfolding bring
  stayed_each finished = none_asked
  stayed_each (also stands-defining r) = stayed_each r
  stayed_each (also stands-dropped r) = stayed_each r
  stayed_each (also (stands_itself h) r) = answered (h look) (stayed_each r)
  stayed_each (also (stands-effects op h) r) = stayed_each r

  groups-each :
      (es : List Effect) → All (Suited c) es → {gs : List Group} → All (Written c) gs
      → Each (bring c look) (map (λ g. ground_covariate c g (forms_in es g)) gs) (map (λ g. brings true (block es g)) gs)
  groups-each es k finished = none_asked
  groups-each es k (also {x = g} w r) = answered (group-brings c g w es k look) (groups-each es k r)

module _ (c : Context) (look : Meaning) (bs : List Brought) (stands : All (Stands c) bs) (es : List Effect) (known : All (λ e. Written c (group_of e) × Suited c e) es) where
  pub brought-again : each_from (bring c look) 0 (ground c bs es) ≡ accepted (brought_again bs es)
  unfolding ground
  brought-again =
      each_answered
      (each_append
      (stayed_each c look stands)
      (groups-each c look es
      (all_weaker (λ e k. k.1) known)
      (all_firsts same_group (all_map group_of (λ e k. k.0) known))))
      0

-- They have no LET.
pub ground_featured : (c : Context) (bs : List Brought) (es : List Effect) → All (λ s. is_let s ≡ false) (ground c bs es)
unfolding ground
ground_featured c bs es =
    all_append
    (staying-featured bs)
    (all_map (λ g. ground_covariate c g (forms_in es g)) (λ g k. refl) (all_of {P = λ g. g ≡ g} (λ g. refl) (groups es)))
  where
    staying-featured : (bs : List Brought) → All (λ s. is_let s ≡ false) (gather staying bs)
    staying-featured [] = finished
    staying-featured (defining ∷ bs) = staying-featured bs
    staying-featured (dropped ∷ bs) = staying-featured bs
    staying-featured (stays x ∷ bs) = also refl (staying-featured bs)
    staying-featured (brings x es ∷ bs) = staying-featured bs
