-- Merging, in any order of the statements.
-- Assumes nothing.
use mathlib.Core.Path.{◌≡◌, ◌∙◌, ap, subst, fun_ext}
use mathlib.Core.Bool.{Bool, not, ◌&&◌}
use mathlib.Core.List.{List}
use Rattle.text.specs.Lists.{any, keep, gather, again, absent}
use Rattle.resolving.specs.Effects.{Effect}
use Rattle.resolving.specs.Brought.{Brought}
use Rattle.resolving.specs.Merging.{
  same_form,
  same_effect,
  is_mandatory,
  explicit_on,
  remains,
  overridden,
  remaining,
  forces_with,
  both_force,
  forced_again,
  also_mandatory,
  merge,
  merged,
}
use Rattle.text.proofs.Permuted.{Permuted, any_permuted, keep_permuted, firsts_permuted, gather_permuted}
use Rattle.text.proofs.Clashing.{again_permuted, any-any}
use Rattle.resolving_laws.proofs.EffectLaws.{effect-equal, effect_sym, forces_sym}

-- Merging effects.

pub yields_permuted : {es fs : List Effect} → Permuted es fs → also_mandatory es ≡ also_mandatory fs
yields_permuted p = fun_ext (λ e. ap (λ (t : Bool). not (is_mandatory e) && t) (any_permuted (λ f. is_mandatory f && same_form e f) p))

pub merge_permuted : {es fs : List Effect} → Permuted es fs → Permuted (merge es) (merge fs)
merge_permuted {es} {fs} p =
    firsts_permuted same_effect effect-equal effect_sym
    (subst
    (λ (y : Effect → Bool). Permuted (keep (λ e. not (also_mandatory es e)) es) (keep (λ e. not (y e)) fs))
    (yields_permuted p)
    (keep_permuted (λ e. not (also_mandatory es e)) p))

-- What statements bring.

pub won_permuted : {bs ds : List Brought} → Permuted bs ds → overridden bs ≡ overridden ds
won_permuted p = fun_ext (λ e. any_permuted (explicit_on e) p)

pub remaining_permuted : {bs ds : List Brought} → Permuted bs ds → Permuted (remaining bs) (remaining ds)
remaining_permuted {bs} {ds} p =
    subst
    (λ (w : Effect → Bool). Permuted (gather (remains (overridden bs)) bs) (gather (remains w) ds))
    (won_permuted p)
    (gather_permuted (remains (overridden bs)) p)

pub merged_permuted : {bs ds : List Brought} → Permuted bs ds → Permuted (merged bs) (merged ds)
unfolding merged
merged_permuted p = merge_permuted (remaining_permuted p)

-- Forced pairs.

clash_sym : (w : Effect → Bool) (b d : Brought) → both_force w b d ≡ both_force w d b
clash_sym w b d =
    any-any forces_with (remains w b) (remains w d)
    ∙ ap (λ (r : Effect → Effect → Bool). any (λ f. any (r f) (remains w b)) (remains w d)) (fun_ext (λ f. fun_ext (λ e. forces_sym e f)))

pub forced_permuted : {bs ds : List Brought} → Permuted bs ds → absent (forced_again bs) ≡ absent (forced_again ds)
forced_permuted {bs} {ds} p =
    subst
    (λ (w : Effect → Bool). absent (again (both_force (overridden bs)) bs) ≡ absent (again (both_force w) ds))
    (won_permuted p)
    (again_permuted (both_force (overridden bs)) (clash_sym (overridden bs)) p)
