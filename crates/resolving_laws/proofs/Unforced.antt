-- Ground statements force no pair twice: what forces one pair is in one group.
-- Assumes nothing.
use mathlib.Core.Path.{◌≡◌, refl, sym, ◌∙◌, ap, ap₂}
use mathlib.Core.Bool.{Bool, true, false, ◌&&◌, ◌||◌, true≢false}
use mathlib.Core.List.{List, [], ◌∷◌, ◌++◌, map}
use mathlib.Core.Option.{none}
use lib.Dec.{eqb}
use borrow.Author.Tests.{eqb-true}
use Rattle.text.proofs.Tests.{halves, refuted}
use Rattle.text.specs.Lists.{any, gather}
use Rattle.resolving.specs.Effects.{Effect}
use Rattle.resolving.specs.Brought.{Brought, defining, dropped, stays, brings}
use Rattle.resolving.specs.Merging.{same_pair, is_mandatory, overridden, forces_with, both_force, forced_again}
use Rattle.resolving.specs.Ground.{Group, same_group, group_of, groups}
use Rattle.text.proofs.All.{All, neither-one, all_weaker, all_of, all_keep, all_map, none-all, all_none}
use Rattle.text.proofs.Clashing.{clashes, never_again}
use Rattle.text.proofs.Once.{firsts-once}
use Rattle.resolving_laws.proofs.EffectLaws.{group-equal, group_self}
use Rattle.resolving_laws.proofs.MergedLaws.{Agree}
use Rattle.resolving_laws.proofs.Regrouped.{block}
use Rattle.resolving_laws.proofs.BroughtAgain.{brought_again, stayed}

stays_peace :
    (w : Effect → Bool) (bs ds : List Brought) → clashes (both_force w) ds ≡ false → clashes (both_force w) (gather stayed bs ++ ds) ≡ false
stays_peace w [] ds h = h
stays_peace w (defining ∷ bs) ds h = stays_peace w bs ds h
stays_peace w (dropped ∷ bs) ds h = stays_peace w bs ds h
stays_peace w (stays x ∷ bs) ds h =
    ap₂ ◌||◌ (all_none (both_force w (stays x)) (all_of (λ d. refl) (gather stayed bs ++ ds))) (stays_peace w bs ds h)
stays_peace w (brings x es ∷ bs) ds h = stays_peace w bs ds h

module _ (es : List Effect) (agree : All (λ e. All (Agree e) es) es) where
  -- what forces one pair is in one group
  one-group : (e f : Effect) → forces_with e f ≡ true → e.operator ≡ f.operator → group_of e ≡ group_of f
  one-group e f h o =
      let a = halves (is_mandatory e && is_mandatory f) (same_pair e f) h in
      let b = halves (is_mandatory e) (is_mandatory f) a.0 in
      let d = halves (eqb e.parameter f.parameter) (eqb e.covariate f.covariate) a.1 in
      λ i. record {
        parameter = eqb-true e.parameter f.parameter d.0 i;
        covariate = eqb-true e.covariate f.covariate d.1 i;
        operator = o i;
        optional = (eqb-true e.optional 0 b.0 ∙ sym (eqb-true f.optional 0 b.1)) i;
      }

  apart_peace : (w : Effect → Bool) (g j : Group) → same_group g j ≡ false → both_force w (brings true (block es g)) (brings true (block es j)) ≡ false
  apart_peace w g j n =
      all_none (λ e. any (forces_with e) (block es j))
      (all_weaker
      (λ e k.
      all_none (forces_with e)
      (all_weaker
      (λ f q.
      refuted (forces_with e f)
      (λ y.
      true≢false
      (sym (group_self g)
      ∙ ap
      (same_group g)
      (group-equal g (group_of e) k.0 ∙ one-group e f y (q.1 y) ∙ sym (group-equal j (group_of f) q.0))
      ∙ n)))
      (all_keep (λ f. same_group j (group_of f)) k.1)))
      (all_keep (λ e. same_group g (group_of e)) agree))

  groups_peace : (w : Effect → Bool) (gs : List Group) → clashes same_group gs ≡ false → clashes (both_force w) (map (λ g. brings true (block es g)) gs) ≡ false
  groups_peace w [] h = refl
  groups_peace w (g ∷ gs) h =
      let k = neither-one (any (same_group g) gs) (clashes same_group gs) h in
      ap₂ ◌||◌
      (all_none (both_force w (brings true (block es g)))
      (all_map (λ j. brings true (block es j)) (λ j n. apart_peace w g j n) (none-all (same_group g) gs k.0)))
      (groups_peace w gs k.1)

  pub unforced : (bs : List Brought) → forced_again (brought_again bs es) ≡ none
  unforced bs =
      let w = overridden (brought_again bs es) in
      never_again (both_force w) (brought_again bs es)
      (stays_peace w bs (map (λ g. brings true (block es g)) (groups es)) (groups_peace w (groups es) (firsts-once same_group (map group_of es))))
