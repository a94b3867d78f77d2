-- A group's ground statement brings the group.
-- Assumes nothing.
use Prim.Native.Nat.{ℕ}
use mathlib.Core.Path.{◌≡◌, refl, ◌∙◌, ap, ap₂}
use mathlib.Core.Bool.{true, false, not}
use mathlib.Core.List.{List, [], ◌∷◌, ◌++◌, map, map-map, append-nil}
use Rattle.reading.specs.Statement.{modes}
use Rattle.reading.specs.Answer.{accepted}
use Rattle.resolving.specs.Context.{Context, covariates, kind_at}
use Rattle.resolving.specs.Symbols.{Meaning}
use Rattle.resolving.specs.Effects.{Effect, suits, operator_number, optional_number, against}
use Rattle.resolving.specs.Brought.{brings, bring}
use Rattle.resolving.specs.Ground.{Group, same_group, group_of, forms_in, operator_as, is_optional, ground_covariate}
use Rattle.text.proofs.All.{All, finished, also, all_weaker, all_keep, all_map, all_none}
use Rattle.resolving_laws.proofs.EffectLaws.{group-equal}
use Rattle.resolving_laws.proofs.Entries.{held-again}
use Rattle.resolving_laws.proofs.Stands.{Written, Suited}
use Rattle.resolving_laws.proofs.Regrouped.{block}

map_self : {A : Type 0} (f : A → A) {l : List A} → All (λ x. f x ≡ x) l → map f l ≡ l
map_self f finished = refl
map_self f (also h r) = ap₂ ◌∷◌ h (map_self f r)

module _ (c : Context) (g : Group) (w : Written c g) where
  abbrev formed : ℕ → Effect
  formed f =
      record {
        parameter = g.parameter;
        covariate = g.covariate;
        form = f;
        operator = operator_number (operator_as g.operator);
        optional = optional_number (is_optional g.optional);
      }

  formed_again : (e : Effect) → same_group g (group_of e) ≡ true → formed e.form ≡ e
  formed_again e h =
      let p = group-equal g (group_of e) h in
      λ i. record {
        parameter = (p i).parameter;
        covariate = (p i).covariate;
        form = e.form;
        operator = (w.operator-known ∙ ap (λ (x : Group). x.operator) p) i;
        optional = (w.mark-known ∙ ap (λ (x : Group). x.optional) p) i;
      }

  module _ (es : List Effect) (known : All (Suited c) es) where
    block-known : All (λ e. (same_group g (group_of e) ≡ true) × Suited c e) (block es g)
    block-known = all_keep (λ e. same_group g (group_of e)) known

    suited-form : (e : Effect) → same_group g (group_of e) ≡ true → Suited c e → not (suits (kind_at c g.covariate) e.form) ≡ false
    suited-form e h s = ap not (ap (λ (x : Group). suits (kind_at c x.covariate) e.form) (group-equal g (group_of e) h) ∙ s)

    group-suits : against c (modes (forms_in es g)) g.covariate ≡ false
    group-suits =
        all_none (λ f. not (suits (kind_at c g.covariate) f))
        (all_map (λ e. e.form) (λ e k. suited-form e k.0 k.1) block-known)

    group-effects : (map formed (forms_in es g) ++ []) ++ [] ≡ block es g
    group-effects =
        append-nil (map formed (forms_in es g) ++ [])
        ∙ append-nil (map formed (forms_in es g))
        ∙ map-map formed (λ (e : Effect). e.form) (block es g)
        ∙ map_self (λ e. formed e.form) (all_weaker (λ e k. formed_again e k.0) block-known)

    pub group-brings : (look : Meaning) → bring c look (ground_covariate c g (forms_in es g)) ≡ accepted (brings true (block es g))
    unfolding bring
    group-brings look =
        simp (
          held-again c.parameters (record { first = also w.parameter-first finished; once = refl }),
          held-again (covariates c) (record { first = also w.covariate-first finished; once = refl }),
          group-suits,
          group-effects,
        )
