-- Effects that can be a set: they can be written, and writing them loses none. Their ground statements resolve to themselves.
-- Assumes nothing.
use Prim.Native.Nat.{◌≤◌}
use native.Mathlib.Omega.{arith}
use mathlib.Core.Path.{◌≡◌, refl, sym, ◌∙◌, ap, ap₂, subst}
use mathlib.Core.Bool.{false}
use mathlib.Core.List.{List, ◌++◌}
use mathlib.Core.Option.{none}
use lib.ListN.{length}
use Rattle.reading.specs.Statement.{Statement}
use Rattle.reading.specs.Answer.{accepted}
use Rattle.canonical.specs.Canonical.{canonical}
use Rattle.text.specs.Lists.{gather}
use Rattle.resolving.specs.Context.{Context}
use Rattle.resolving.specs.Symbols.{lets, look_up}
use Rattle.resolving.specs.Effects.{Effect}
use Rattle.resolving.specs.Brought.{Brought}
use Rattle.resolving.specs.Merging.{same_effect, effects_in, overridden, remaining, both_force, forced_again, also_mandatory, merge, merged}
use Rattle.resolving.specs.Ground.{group_of, ground_effects, ground}
use Rattle.resolving.specs.Resolve.{Resolved, Note, additive, resolve, outcome}
use Rattle.text.proofs.Permuted.{Permuted, length_permuted}
use Rattle.text.proofs.All.{All, all_weaker}
use Rattle.text.proofs.Clashing.{clashes, never_clash}
use Rattle.resolving_laws.proofs.Passed.{gives_accepted}
use Rattle.resolving_laws.proofs.Stands.{Written, Suited, Stands}
use Rattle.resolving_laws.proofs.Standing.{all-stand}
use Rattle.resolving_laws.proofs.MergedLaws.{merged_shorter, merge-all, merge-once, merge_settled, Agree, all_agree, all_known}
use Rattle.resolving_laws.proofs.Regrouped.{ground-again, in_groups_lem, in_groups, merged-again}
use Rattle.resolving_laws.proofs.BroughtAgain.{brought-again, brought_again, ground_featured}
use Rattle.resolving_laws.proofs.MergedAgain.{effects-again, none-dropped-again, remaining-again, staying-again}
use Rattle.resolving_laws.proofs.Unforced.{unforced}
use Rattle.resolving_laws.proofs.Settling.{Settles, resolved_as, resolves_as}

pub record Fit (c : Context) (es : List Effect) : Type 0 where
  pub once : clashes same_effect es ≡ false
  pub settled : All (λ e. also_mandatory es e ≡ false) es
  pub agree : All (λ e. All (Agree e) es) es
  pub known : All (λ e. Written c (group_of e) × Suited c e) es

-- Statements that stay and such effects, as ground statements within the limits, resolve to themselves.
module _
    (c : Context)
    (bs : List Brought)
    (stands : All (Stands c) bs)
    (es : List Effect)
    (fit : Fit c es)
    (few : length es ≤ 2048)
    (count : length (ground c bs es) ≤ 256)
    (size : length (canonical (ground c bs es)) ≤ 16384)
  where
    abbrev again-bs : List Brought
    again-bs = brought_again bs es

    pub effects-back : merged again-bs ≡ in_groups es
    unfolding merged
    effects-back = ap merge (remaining-again bs es) ∙ merged-again es fit.once fit.settled

    pub statements-back : ground c again-bs (merged again-bs) ≡ ground c bs es
    unfolding ground
    statements-back = ap₂ ◌++◌ (staying-again bs es) (ap (ground_effects c) effects-back ∙ ground-again c es)

    settles-back : Settles c again-bs
    settles-back =
        record {
          few = omega (arith, ap length (effects-again bs es effects_in (λ x. refl) (λ l. refl)), length_permuted (in_groups_lem es), few);
          peace = unforced es fit.agree bs;
          count = omega (arith, ap length statements-back, count);
          size = omega (arith, ap (λ (gs : List Statement). length (canonical gs)) statements-back, size);
        }

    pub fit-resolves : resolve c (ground c bs es) ≡ accepted (outcome c again-bs)
    fit-resolves =
        resolves_as c (ground c bs es) again-bs (ground_featured c bs es)
        (brought-again c (look_up c (lets (ground c bs es))) bs stands es fit.known)
        settles-back

-- Merged effects are such.
pub merged-fit : (c : Context) (bs : List Brought) → All (Stands c) bs → forced_again bs ≡ none → Fit c (merged bs)
unfolding merged
merged-fit c bs stands peace =
    record {
      once = merge-once (remaining bs);
      settled = merge_settled (remaining bs);
      agree =
          merge-all (remaining bs)
          (all_weaker
          (λ e k. merge-all (remaining bs) k)
          (all_agree c (overridden bs) stands (never_clash (both_force (overridden bs)) bs peace)));
      known = merge-all (remaining bs) (all_known c (overridden bs) stands);
    }

merged-few : (bs : List Brought) → length (gather effects_in bs) ≤ 2048 → length (merged bs) ≤ 2048
unfolding merged
merged-few bs h = omega (arith, merged_shorter bs, h)

-- Ground statements, resolved again: they are their own ground statements, nothing is dropped, and the effects are the same.
pub record Reresolved (c : Context) (r : Resolved) : Type 0 where
  pub result : Resolved
  pub resolves : resolve c r.statements ≡ accepted result
  pub same : result.statements ≡ r.statements
  pub undropped : result.notes ≡ additive result.effects
  pub permuted : Permuted r.effects result.effects

module _ (c : Context) (bs : List Brought) (stands : All (Stands c) bs) (s : Settles c bs) where
  reresolves : Reresolved c (outcome c bs)
  reresolves =
      let f = merged-fit c bs stands s.peace in
      let m = merged-few bs s.few in
      record {
        result = outcome c (brought_again bs (merged bs));
        resolves = fit-resolves c bs stands (merged bs) f m s.count s.size;
        same = statements-back c bs stands (merged bs) f m s.count s.size;
        undropped =
            ap (λ (ns : List Note). ns ++ additive (merged (brought_again bs (merged bs)))) (none-dropped-again bs (merged bs));
        permuted =
            subst
            (Permuted (merged bs))
            (sym (effects-back c bs stands (merged bs) f m s.count s.size))
            (in_groups_lem (merged bs));
      }

-- Where statements resolve, their ground statements resolve to themselves, and nothing is dropped.
pub ground_reresolved : (c : Context) (ss : List Statement) (r : Resolved) → resolve c ss ≡ accepted r → Reresolved c r
ground_reresolved c ss r e =
    let a = resolved_as c ss r e in
    subst
    (λ (x : Resolved). Reresolved c x)
    (sym a.settled.equals)
    (reresolves c a.brought (gives_accepted (all-stand c (look_up c (lets ss)) 0 ss) a.each) a.settled.held)
