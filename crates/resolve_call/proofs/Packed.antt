-- Answers whose effects stand packed in the working buffer: there is room for them, and an output that takes them, in any form, holds what the
-- definition says.
-- Assumes nothing.
use Prim.Native.Nat.{ℕ, ◌≤◌}
use native.Mathlib.Omega.{arith}
use mathlib.Core.Path.{◌≡◌, refl, ◌∙◌, ap, ap₂, sym, subst}
use mathlib.Core.Bool.{Bool, true, false, cond, ◌||◌}
use mathlib.Core.List.{List, ◌++◌, map}
use borrow.Author.Tests.{le-ltb, ltb-false}
use lib.Dec.{ltb}
use lib.ListN.{length, take, drop, replicate, length-map, length-take}
use Rattle.reading.specs.Answer.{Answer, accepted, refused}
use Rattle.resolving.specs.Effects.{Effect}
use Rattle.resolving.specs.Resolve as definition
use Rattle.resolving.specs.Resolve.{ground_text}
use Rattle.resolving.specs.Handed.{resolve_handed}
use Rattle.resolving.specs.Call.{Lengths, exceeds, lengths_in, room_for, resolving_call, lengths_of, output_of, work_after, working_length}
use Rattle.resolve_merging.specs.Packing.{effect_of}
use Rattle.resolve_settling.specs.Answers.{Resolved}
use Rattle.resolve_settling.specs.Answers.{resolved_as, rooms, effects_in, PackedIn, Answers, Packed}

-- a refusal leaves all as it was
pub refused-packed : {a : Answer definition.Resolved} {g : List ℕ} {n : List (List ℕ)} {w : List ℕ} (k p : ℕ) → a ≡ refused k p → Packed a g n w g n w
refused-packed {a} {g} {n} {w} k p h =
    subst (λ (y : Answer definition.Resolved). Packed y g n w g n w) (sym h) (record { text = refl; packed = tt; remarks = refl; left = refl })

-- what is left of a buffer that is long enough
pub cleared : (w : List ℕ) → 2048 ≤ length w → replicate (length w) 0 ≡ work_after w
cleared w h = sym (ap (λ (t : Bool). cond t w (replicate (length w) 0)) (le-ltb (length w) 2048 h))

module _ {a b : Answer definition.Resolved} {g g' : List ℕ} {e : ℕ} {n n' : List (List ℕ)} {w' : List ℕ} {r : Resolved}
    (h : a ≡ room_for (rooms g e n) b) (x : Answers b g e n g' n' w' r) where
  pub answers_told : resolved_as r ≡ lengths_of a
  answers_told = x.told ∙ sym (ap lengths_of h)

  pub answers_packed : {w : List ℕ} → 2048 ≤ length w → length w' ≡ length w → Packed a g n w g' n' w'
  answers_packed {w} k same =
      subst (λ (y : Answer definition.Resolved). Packed y g n w g' n' w') (sym h)
      (record {
        text = x.text;
        packed = x.packed;
        remarks = x.remarks;
        left = sym (cleared w' (omega (arith, k, same))) ∙ ap (λ (i : ℕ). replicate i 0) same ∙ cleared w k;
      })

-- There is room for the effects of an answer in the output that is lent.

middle_false : (x y z : Bool) → (x || (y || z)) ≡ false → y ≡ false
middle_false true y z e = let q : ◌≡◌ {A = ℕ} 0 1 = cc in absurd (omega arith)
middle_false false true z e = let q : ◌≡◌ {A = ℕ} 0 1 = cc in absurd (omega arith)
middle_false false false z e = refl

with_room : (n : Lengths) (t : Bool) (a : Answer definition.Resolved) (x : definition.Resolved)
    → cond t (refused 19 0) (room_for n a) ≡ accepted x
    → length x.effects ≤ n.effects
with_room n true a x e = let z : ◌≡◌ {A = ℕ} 0 1 = cc in absurd (omega arith)
with_room n false (refused k p) x e = let z : ◌≡◌ {A = ℕ} 0 1 = cc in absurd (omega arith)
with_room n false (accepted y) x e = by_test (exceeds n (lengths_in y)) refl e
  where
    by_test : (t : Bool) → exceeds n (lengths_in y) ≡ t → cond t (refused 19 0) (accepted y) ≡ accepted x → length x.effects ≤ n.effects
    by_test true h q = let z : ◌≡◌ {A = ℕ} 0 1 = cc in absurd (omega arith)
    by_test false h q =
        let z : y ≡ x = cc in
        subst (λ (v : definition.Resolved). length v.effects ≤ n.effects) z
        (ltb-false _ _ (middle_false (ltb n.ground (length (ground_text y))) (ltb n.effects (length y.effects)) _ h))

called-room : (limit : ℕ) (block numbers text : List ℕ) (n : Lengths) (work : ℕ) (x : definition.Resolved)
    → resolving_call limit block numbers text n work ≡ accepted x
    → length x.effects ≤ n.effects
unfolding resolving_call
called-room limit block numbers text n work x e = with_room n (ltb work working_length) (resolve_handed limit block numbers text) x e

pub effects-fit : (limit : ℕ) (block numbers text : List ℕ) (n : Lengths) (work : ℕ)
    → effects_in (lengths_of (resolving_call limit block numbers text n work)) ≤ n.effects
effects-fit limit block numbers text n work = by_answer (resolving_call limit block numbers text n work) refl
  where
    by_answer : (a : Answer definition.Resolved) → resolving_call limit block numbers text n work ≡ a → effects_in (lengths_of a) ≤ n.effects
    by_answer (accepted x) e = called-room limit block numbers text n work x e
    by_answer (refused k p) e = omega arith

-- They stand in the buffer, all of them, and so are in the output that takes them.
pub effects-stand : (a : Answer definition.Resolved) (w : List ℕ) → PackedIn a w → effects_in (lengths_of a) ≤ length w
effects-stand (accepted x) w e =
    omega (arith, ap length e, length-map (take (length x.effects) w) effect_of, length-take (length x.effects) w)
effects-stand (refused k p) w e = omega arith

pub effects-put : {A : Type 0} (f : Effect → A) (a : Answer definition.Resolved) (w : List ℕ) (ys : List A)
    → PackedIn a w
    → map f (map effect_of (take (effects_in (lengths_of a)) w)) ++ drop (effects_in (lengths_of a)) ys ≡ output_of (λ x. map f x.effects) a ys
effects-put {A} f (accepted x) w ys e = ap₂ (λ (es : List Effect) (i : ℕ). map f es ++ drop i ys) e (sym (length-map x.effects f))
effects-put f (refused k p) w ys e = refl
