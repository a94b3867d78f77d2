-- Effects in their groups: merging them again changes nothing, and their ground statements are the same.
-- Assumes nothing.
use mathlib.Core.Path.{◌≡◌, sym, ◌∙◌, ap}
use mathlib.Core.Bool.{Bool, false, not}
use mathlib.Core.List.{List, map}
use Rattle.text.specs.Lists.{keep, firsts}
use Rattle.resolving.specs.Context.{Context}
use Rattle.resolving.specs.Effects.{Effect}
use Rattle.resolving.specs.Merging.{same_effect, also_mandatory, merge}
use Rattle.resolving.specs.Ground.{Group, same_group, group_of, groups, forms_in, ground_covariate, ground_effects}
use Rattle.text.proofs.Permuted.{Permuted, permuted_back}
use Rattle.text.proofs.All.{All, all_weaker, all_permuted, keep_all, map_each, all_members}
use Rattle.text.proofs.Clashing.{clashes, clashes_permuted}
use Rattle.text.proofs.Once.{once-firsts}
use Rattle.text.proofs.Grouping.{regroup, regrouped, same_keys, same_block}
use Rattle.resolving_laws.proofs.EffectLaws.{group-equal, group_self, effect_sym}
use Rattle.resolving_laws.proofs.MergingLaws.{yields_permuted}

abbrev pub block : List Effect → Group → List Effect
block es g = keep (λ e. same_group g (group_of e)) es

abbrev pub in_groups : List Effect → List Effect
in_groups es = regroup group_of same_group group-equal group_self es

pub in_groups_lem : (es : List Effect) → Permuted es (in_groups es)
in_groups_lem es = regrouped group_of same_group group-equal group_self es

-- merged effects in groups are merged already
module _ (es : List Effect) (once : clashes same_effect es ≡ false) (settled : All (λ e. also_mandatory es e ≡ false) es) where
  pub merged-again : merge (in_groups es) ≡ in_groups es
  merged-again =
      ap
      (firsts same_effect)
      (keep_all (λ e. not (also_mandatory (in_groups es) e))
      (all_permuted (in_groups_lem es) (all_weaker (λ e h. ap not (ap (λ (y : Effect → Bool). y e) (yields_permuted (permuted_back (in_groups_lem es))) ∙ h)) settled)))
      ∙ once-firsts same_effect (in_groups es) (sym (clashes_permuted same_effect effect_sym (in_groups_lem es)) ∙ once)

pub ground-again : (c : Context) (es : List Effect) → ground_effects c (in_groups es) ≡ ground_effects c es
ground-again c es =
    ap (map (λ g. ground_covariate c g (forms_in (in_groups es) g))) (same_keys group_of same_group group-equal group_self es)
    ∙ map_each
    (λ g. ground_covariate c g (forms_in (in_groups es) g))
    (λ g. ground_covariate c g (forms_in es g))
    (all_members same_group group_self (groups es)
    (λ g h.
    ap
    (λ (l : List Effect). ground_covariate c g (map (λ e. e.form) l))
    (same_block group_of same_group group-equal group_self es g h)))
