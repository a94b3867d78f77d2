-- Effects that were made on a bench: there are at most 2,048, and once they are put at the start of the working buffer the answer tells of them there.
-- Assumes nothing.
use Prim.Native.Nat.{ℕ, ◌≤◌}
use native.Mathlib.Omega.{arith}
use mathlib.Core.Path.{◌≡◌, refl, ◌∙◌, ap, subst}
use mathlib.Core.Bool.{Bool, true, false, cond}
use mathlib.Core.List.{List, ◌++◌, map}
use lib.ListN.{length, take, drop}
use lib.Seq.{length-take-le, take-append-le, take-take}
use Rattle.reading.specs.Answer.{Answer, accepted, refused}
use Rattle.resolving.specs.Context.{Context}
use Rattle.resolving.specs.Brought.{Brought}
use Rattle.resolving.specs.Merging.{merged}
use Rattle.resolving.specs.Resolve as definition
use Rattle.resolving.specs.Resolve.{merge_and_ground}
use Rattle.resolving.specs.Call.{Lengths, exceeds, lengths_in, room_for, lengths_of}
use Rattle.resolving_laws.proofs.MergedLaws.{merged_shorter}
use Rattle.resolving_laws.proofs.Settling.{settled_as}
use Rattle.resolve_merging.specs.Packing.{effect_of}
use Rattle.resolve_settling.specs.Answers.{Resolved}
use Rattle.resolve_settling.specs.Answers.{resolved_as, rooms, effects_in, PackedIn, Answers}
use Rattle.resolve_call.proofs.Packed.{effects-stand}

-- merging makes no more effects than are brought
merged-few : (c : Context) (bs : List Brought) (x : definition.Resolved) → merge_and_ground c bs ≡ accepted x → length x.effects ≤ 2048
unfolding merged
merged-few c bs x h =
    let s = settled_as c bs x h in
    omega (arith, ap (λ (y : definition.Resolved). length y.effects) s.equals, merged_shorter bs, s.held.few)

-- of an answer for which there is room, or that is refused, no more are told
roomed_few : (n : Lengths) (most : ℕ) (a : Answer definition.Resolved)
    → ((x : definition.Resolved) → a ≡ accepted x → length x.effects ≤ most)
    → effects_in (lengths_of (room_for n a)) ≤ most
roomed_few n most (refused k p) h = omega arith
roomed_few n most (accepted x) h = by_test (exceeds n (lengths_in x))
  where
    by_test : (t : Bool) → effects_in (lengths_of (cond t (refused 19 0) (accepted x))) ≤ most
    by_test true = omega arith
    by_test false = h x refl

-- the effects of an answer stand in every buffer that starts as the bench does
packed_front : (a : Answer definition.Resolved) (bench work : List ℕ)
    → take (effects_in (lengths_of a)) work ≡ take (effects_in (lengths_of a)) bench
    → PackedIn a bench
    → PackedIn a work
packed_front (accepted x) bench work e p = ap (map effect_of) e ∙ p
packed_front (refused k q) bench work e p = tt

module _ {g g' : List ℕ} {e : ℕ} {n n' : List (List ℕ)} {bench : List ℕ} (r : Resolved) where
  pub told-few : (c : Context) (bs : List Brought) → Answers (merge_and_ground c bs) g e n g' n' bench r → effects_in (resolved_as r) ≤ 2048
  told-few c bs x =
      omega (arith, ap effects_in x.told, roomed_few (rooms g e n) 2048 (merge_and_ground c bs) (merged-few c bs))

  module _ {a : Answer definition.Resolved} (x : Answers a g e n g' n' bench r) where
    pub told-stand : effects_in (resolved_as r) ≤ length bench
    told-stand = omega (arith, ap effects_in x.told, effects-stand (room_for (rooms g e n) a) bench x.packed)

    pub answers-put : {work' : List ℕ} {count : ℕ} (work : List ℕ)
        → count ≡ effects_in (resolved_as r)
        → work' ≡ take count bench ++ drop count work
        → Answers a g e n g' n' work' r
    answers-put {work'} {count} work k h =
        let there : count ≤ length bench = omega (arith, k, told-stand) in
        let size : length (take count bench) ≡ count = length-take-le count bench there in
        let front : take count work' ≡ take count bench =
        ap (take count) h
        ∙ take-append-le count (take count bench) (drop count work) (omega (arith, size))
        ∙ take-take count count bench (omega arith) in
        record {
          told = x.told;
          text = x.text;
          packed =
              packed_front (room_for (rooms g e n) a) bench work'
              (subst (λ (i : ℕ). take i work' ≡ take i bench) (k ∙ ap effects_in x.told) front) x.packed;
          remarks = x.remarks;
        }
