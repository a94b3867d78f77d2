-- What the numbers mean: the merged effects of document 01, and the statement that forces a pair again.
-- Assumes nothing.
use Prim.Native.Nat.{ℕ}
use mathlib.Core.Path.{◌≡◌, refl, sym, ◌∙◌, ap, fun_ext}
use mathlib.Core.Bool.{Bool, not}
use mathlib.Core.List.{List, [], ◌∷◌, map}
use lib.Dec.{eqb}
use Rattle.text.specs.Lists.{keep, firsts}
use Rattle.resolving.specs.Effects.{Effect}
use Rattle.resolving.specs.Brought.{Brought}
use Rattle.resolving.specs.Merging.{same_effect, also_mandatory, merge, merged, remaining, forced_again}
use Rattle.resolving_laws.specs.Flat.{Term, terms_from, overridden_among, forced_after}
use Rattle.resolving_laws.proofs.FlatLaws.{remaining-run, forced_run}
use Rattle.resolve_merging.specs.Packing.{effect_of, term_of, bare}
use Rattle.resolve_merging.specs.Runs.{remaining_in, forced_in, also_mandatory_in, united_in}
use Rattle.resolve_merging.proofs.Fields.{effect_eqb, bare-effect}
use Rattle.resolve_merging.proofs.Mapped.{keep-map, firsts-map}

map-bare : (l : List ℕ) → map effect_of (map bare l) ≡ map effect_of l
map-bare [] = refl
map-bare (w ∷ l) = ap (λ (e : Effect). e ∷ map effect_of (map bare l)) (bare-effect w) ∙ ap (λ (m : List Effect). effect_of w ∷ m) (map-bare l)

united_means : (l : List ℕ) → map effect_of (united_in l) ≡ merge (map effect_of l)
united_means l =
    let k = keep (λ w. not (also_mandatory_in l w)) l in
    ap (map effect_of) (firsts-map bare eqb k)
    ∙ map-bare (firsts (λ x y. eqb (bare x) (bare y)) k)
    ∙ ap (λ (same : ℕ → ℕ → Bool). map effect_of (firsts same k)) (fun_ext (λ x. fun_ext (λ y. sym (effect_eqb x y))))
    ∙ sym (firsts-map effect_of same_effect k)
    ∙ ap (firsts same_effect) (sym (keep-map effect_of (λ e. not (also_mandatory (map effect_of l) e)) l))

map-effects : (l : List ℕ) → map effect_of l ≡ map (λ (t : Term). t.effect) (map term_of l)
map-effects [] = refl
map-effects (w ∷ l) = ap (λ (m : List Effect). effect_of w ∷ m) (map-effects l)

-- A run that is the terms of what the statements bring.
module _ (l : List ℕ) (bs : List Brought) (run : map term_of l ≡ terms_from 0 bs) where
  terms-kept : map term_of (remaining_in l) ≡ keep (λ t. not (overridden_among (terms_from 0 bs) t)) (terms_from 0 bs)
  terms-kept =
      sym (keep-map term_of (λ t. not (overridden_among (map term_of l) t)) l)
      ∙ ap (λ (ts : List Term). keep (λ t. not (overridden_among ts t)) ts) run

  remaining-means : map effect_of (remaining_in l) ≡ remaining bs
  remaining-means = map-effects (remaining_in l) ∙ ap (map (λ (t : Term). t.effect)) terms-kept ∙ remaining-run bs

  pub forced_means : forced_in (remaining_in l) ≡ forced_again bs
  forced_means = ap (forced_after []) terms-kept ∙ forced_run bs

  pub merged-means : map effect_of (united_in (remaining_in l)) ≡ merged bs
  unfolding merged
  merged-means = united_means (remaining_in l) ∙ ap merge remaining-means
