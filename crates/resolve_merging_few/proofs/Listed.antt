-- Groups that stand in the buffer of `resolve_merging`, as a run of their own; and the other way, so that its laws tell what a run of groups means.
-- Assumes nothing.
use Prim.Native.Nat.{ℕ, ◌+◌, ◌*◌, ◌-◌, ◌≤◌, ◌<◌}
use native.Mathlib.Omega.{arith}
use mathlib.Core.Path.{◌≡◌, refl, sym, ◌∙◌, ap, ap₂, subst}
use mathlib.Core.Bool.{Bool, true, false, cond}
use mathlib.Core.List.{List, [], ◌∷◌, ◌++◌, map}
use borrow.Author.Tests.{le-leb}
use lib.Dec.{eqb}
use lib.ListN.{length, take, drop, get_or, replicate, length-map, length-take, length-append, length-replicate, get_or-replicate, get_or-append}
use lib.Seq.{get_or-drop, take-append-le, take_at, drop_at, get_or-append-add, length-take-le}
use Rattle.read_packs.specs.Packs.{Snug}
use Rattle.resolving.specs.Effects.{Effect}
use Rattle.resolving.specs.Ground.{group_of, same_group}
use Rattle.resolving_laws.proofs.MergedLaws.{firsts_shorter}
use Rattle.resolve_merging.specs.Packing.{effect_of, pair_of}
use Rattle.resolve_merging.specs.Runs.{groups_in, forms_of}
use Rattle.resolve_merging.specs.Tables.{entry, updated, tally, Tallied}
use Rattle.resolve_merging.specs.Outcomes.{group_at, forms_at, GroupsStand, GroupListed, GroupsListed}
use Rattle.resolve_merging.specs.Grouping.{GroupNumbers, listed_as, Packed}
use Rattle.resolve_merging.proofs.TableLaws.{kept_self}
use Rattle.resolve_merging.proofs.GroupMeans.{all-groups}
use Rattle.resolve_merging.proofs.Answers.{groups-stand}
use Rattle.resolve_merging_few.specs.Listing.{group_in, forms_for}

-- groups that stand from 6,144 on
module _ (work : List ℕ) (j : ℕ) where
  pub group-there : group_in (drop 6144 work) j ≡ group_at work j
  group-there = get_or-drop 6144 work (2 * j) 0

  pub forms-there : forms_for (drop 6144 work) j ≡ forms_at work j
  forms-there = get_or-drop 6144 work (2 * j + 1) 0 ∙ ap (λ (i : ℕ). get_or work i 0) (omega arith)

pub stand-listed : {es : List Effect} {work : List ℕ} {k : ℕ} → GroupsStand es work k → GroupsListed es (drop 6144 work) k
stand-listed {es} {work} {k} s = record { count = s.count; few = s.few; each = one }
  where
    one : (j : ℕ) → j < k → GroupListed es (drop 6144 work) j
    one j h =
        let g = s.each j h in
        record {
          group = rw (group-there work j) g.group;
          forms = rw (group-there work j, forms-there work j) g.forms;
          snug = subst Snug (sym (forms-there work j)) g.snug;
        }

-- there are no more groups than effects
pub listed-few : (work : List ℕ) (m : ℕ) {listed : List ℕ} {k : ℕ} → GroupsListed (map effect_of (take m work)) listed k → k ≤ m
listed-few work m s =
    let es = map effect_of (take m work) in
    omega (
      arith,
      s.count,
      firsts_shorter same_group (map group_of es),
      length-map es group_of,
      length-map (take m work) effect_of,
      length-take m work,
    )

-- A run of groups behind effects and a table of zeros, as `resolve_merging` has them.
module _ (work listed : List ℕ) (m : ℕ) (low : m ≤ 64) (room : m ≤ length work) where
  abbrev front : List ℕ
  front = take m work ++ replicate (6144 - m) 0

  abbrev buffer : List ℕ
  buffer = front ++ listed

  front_long : length front ≡ 6144
  front_long =
      length-append (take m work) (replicate (6144 - m) 0)
      ∙ ap₂ ◌+◌ (length-take-le m work room) (length-replicate (6144 - m) 0)
      ∙ omega arith

  effects-first : take m buffer ≡ take m work
  effects-first =
      take-append-le m front listed (omega (arith, front_long)) ∙ take_at (take m work) (replicate (6144 - m) 0) m (length-take-le m work room)

  listed-behind : drop 6144 buffer ≡ listed
  listed-behind = drop_at front listed 6144 front_long

  no_entry : (p : ℕ) → p < 4096 → entry buffer p ≡ 0
  no_entry p h =
      let e : 2048 + p ≡ length (take m work) + (2048 + p - m) = omega (arith, length-take-le m work room) in
      get_or-append front listed 0 (2048 + p) (omega (arith, front_long))
      ∙ ap (λ (i : ℕ). get_or front i 0) e
      ∙ get_or-append-add (take m work) (replicate (6144 - m) 0) (2048 + p - m) 0
      ∙ get_or-replicate (6144 - m) (2048 + p - m) 0 0 (omega arith)

  still_none : (t : ℕ → ℕ) (p : ℕ) → t p ≡ 0 → (l : List ℕ) → tally (λ w v. 0) t l p ≡ 0
  still_none t p e [] = e
  still_none t p e (w ∷ l) = still_none (updated (λ w v. 0) t w) p (by_cases (eqb (pair_of w) p)) l
    where
      by_cases : (b : Bool) → cond b 0 (t p) ≡ 0
      by_cases true = refl
      by_cases false = e

  cleared : Tallied (λ w v. 0) (take m buffer) buffer buffer
  cleared = record {
    kept = kept_self buffer;
    terms = refl;
    groups = refl;
    entries = λ p h. no_entry p h ∙ sym (still_none (entry buffer) p (no_entry p h) (take m buffer));
  }

  pub listed-means :
      (k : ℕ) → k ≤ 256 → k ≡ length (groups_in (take m work))
      → ((j : ℕ) → j < k → group_in listed j ≡ get_or (groups_in (take m work)) j 0)
      → ((j : ℕ) → j < k → Packed (forms_for listed j) (forms_of (group_in listed j) (take m work)))
      → GroupsListed (map effect_of (take m work)) listed k
  listed-means k few count gs fs =
      let own : (j : ℕ) → group_at buffer j ≡ group_in listed j =
      λ j. sym (group-there buffer j) ∙ ap (λ (l : List ℕ). group_in l j) listed-behind in
      let forms : (j : ℕ) → forms_at buffer j ≡ forms_for listed j =
      λ j. sym (forms-there buffer j) ∙ ap (λ (l : List ℕ). forms_for l j) listed-behind in
      let numbers : GroupNumbers (groups_in (take m buffer)) buffer k =
      subst (λ (l : List ℕ). GroupNumbers (groups_in l) buffer k) (sym effects-first) record {
        count = count;
        each = λ j h. own j ∙ gs j h;
      } in
      let most : m ≤ 2048 = omega arith in
      let stand : GroupsStand (map effect_of (take m buffer)) buffer k =
      groups-stand
      (all-groups most cleared
      record {
        kept = kept_self buffer;
        terms = refl;
        answer = subst (λ (t : Bool). listed_as t (groups_in (take m buffer)) buffer k) (sym (le-leb k 256 few)) numbers;
      }
      few
      record {
        kept = kept_self buffer;
        terms = refl;
        groups = λ j. refl;
        forms = λ j h.
            subst (λ (x : ℕ). Packed x (forms_of (group_at buffer j) (take m buffer))) (sym (forms j))
            (subst (λ (g : ℕ). Packed (forms_for listed j) (forms_of g (take m buffer))) (sym (own j))
            (subst (λ (l : List ℕ). Packed (forms_for listed j) (forms_of (group_in listed j) l)) (sym effects-first) (fs j h)));
      })
      refl in
      subst (λ (l : List ℕ). GroupsListed (map effect_of (take m work)) l k) listed-behind
      (subst (λ (l : List ℕ). GroupsListed (map effect_of l) (drop 6144 buffer) k) effects-first (stand-listed stand))
