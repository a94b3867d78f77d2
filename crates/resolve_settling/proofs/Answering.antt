-- Answers: a refusal leaves every output as it was; where there is room, each output has its part at its start.
-- Assumes nothing.
use Prim.Native.Nat.{ℕ, ◌≤◌, ◌<◌}
use mathlib.Core.Path.{◌≡◌, refl, ◌∙◌, ap, sym, subst}
use mathlib.Core.Bool.{Bool, true, false, cond, ◌||◌}
use mathlib.Core.List.{List, ◌++◌, map}
use borrow.Author.Tests.{lt-ltb, le-ltb}
use lib.Dec.{ltb}
use lib.ListN.{length, drop}
use Rattle.reading.specs.Answer.{Answer, accepted, refused}
use Rattle.resolving.specs.Resolve as definition
use Rattle.resolving.specs.Resolve.{ground_text}
use Rattle.resolving.specs.Call as call
use Rattle.resolving.specs.Call.{exceeds, lengths_in, room_for, lengths_of, output_of, note_numbers}
use Rattle.resolve_settling.specs.Answers.{Resolved}
use Rattle.resolve_settling.specs.Answers.{resolved_as, rooms, PackedIn, Answers}

or_true : (y : Bool) → (y || true) ≡ true
or_true true = refl
or_true false = refl

module _ {g : List ℕ} {e : ℕ} {n : List (List ℕ)} where
  -- an answer for another that is equal
  pub same_answers : {a b : Answer definition.Resolved} {g' : List ℕ} {n' : List (List ℕ)} {w' : List ℕ} (r : Resolved)
      → b ≡ a
      → Answers a g e n g' n' w' r
      → Answers b g e n g' n' w' r
  same_answers {a} {b} {g'} {n'} {w'} r h x = subst (λ (y : Answer definition.Resolved). Answers y g e n g' n' w' r) (sym h) x

  pub refused_answers : {a : Answer definition.Resolved} {w' : List ℕ} (r : Resolved) (k p : ℕ) → a ≡ refused k p → resolved_as r ≡ refused k p → Answers a g e n g n w' r
  refused_answers r k p h t = same_answers r h (record { told = t; text = refl; packed = tt; remarks = refl })

  -- an output is shorter than its answer
  module _ {a : Answer definition.Resolved} {w' : List ℕ} (x : definition.Resolved) (h : a ≡ accepted x) (r : Resolved) (t : resolved_as r ≡ refused 19 0) where
    short : exceeds (rooms g e n) (lengths_in x) ≡ true → Answers a g e n g n w' r
    short s =
        same_answers r h
        (record {
          told = t ∙ sym (ap lengths_of turned);
          text = sym (ap (λ y. output_of ground_text y g) turned);
          packed = subst (λ (y : Answer definition.Resolved). PackedIn y w') (sym turned) tt;
          remarks = sym (ap (λ y. output_of (λ z. map note_numbers z.notes) y n) turned);
        })
      where
        turned : room_for (rooms g e n) (accepted x) ≡ refused 19 0
        turned = ap (λ (y : Bool). cond y (refused 19 0) (accepted x)) s

    pub short-ground : length g < length (ground_text x) → Answers a g e n g n w' r
    short-ground k =
        short
        (ap (λ (y : Bool). y || (ltb e (length x.effects) || ltb (length n) (length x.notes))) (lt-ltb (length g) (length (ground_text x)) k))

    pub short-effects : e < length x.effects → Answers a g e n g n w' r
    short-effects k =
        short
        (ap (λ (y : Bool). ltb (length g) (length (ground_text x)) || (y || ltb (length n) (length x.notes))) (lt-ltb e (length x.effects) k)
        ∙ or_true (ltb (length g) (length (ground_text x))))

    pub short-notes : length n < length x.notes → Answers a g e n g n w' r
    short-notes k =
        short
        (ap (λ (y : Bool). ltb (length g) (length (ground_text x)) || (ltb e (length x.effects) || y)) (lt-ltb (length n) (length x.notes) k)
        ∙ ap (λ (y : Bool). ltb (length g) (length (ground_text x)) || y) (or_true (ltb e (length x.effects)))
        ∙ or_true (ltb (length g) (length (ground_text x))))

  -- there is room
  pub room_answers : {a : Answer definition.Resolved} (x : definition.Resolved) (r : Resolved) {g' : List ℕ} {n' : List (List ℕ)} {w' : List ℕ}
      → a ≡ accepted x
      → resolved_as r ≡ accepted (lengths_in x)
      → length (ground_text x) ≤ length g
      → length x.effects ≤ e
      → length x.notes ≤ length n
      → g' ≡ ground_text x ++ drop (length (ground_text x)) g
      → PackedIn (accepted x) w'
      → n' ≡ map note_numbers x.notes ++ drop (length (map note_numbers x.notes)) n
      → Answers a g e n g' n' w' r
  room_answers x r {w' = w'} h t p q s u v w =
      same_answers r h
      (record {
        told = t ∙ sym (ap lengths_of turned);
        text = u ∙ sym (ap (λ y. output_of ground_text y g) turned);
        packed = subst (λ (y : Answer definition.Resolved). PackedIn y w') (sym turned) v;
        remarks = w ∙ sym (ap (λ y. output_of (λ z. map note_numbers z.notes) y n) turned);
      })
    where
      fine : exceeds (rooms g e n) (lengths_in x) ≡ false
      fine =
          rw (
            le-ltb (length g) (length (ground_text x)) p,
            le-ltb e (length x.effects) q,
            le-ltb (length n) (length x.notes) s,
          )
          refl

      turned : room_for (rooms g e n) (accepted x) ≡ accepted x
      turned = ap (λ (y : Bool). cond y (refused 19 0) (accepted x)) fine

-- lengths that are equal, one by one
pub lengths_same : {g g' e e' n n' : ℕ} → g ≡ g' → e ≡ e' → n ≡ n'
    → ◌≡◌ {A = call.Lengths} (record { ground = g; effects = e; notes = n }) (record { ground = g'; effects = e'; notes = n' })
lengths_same p q r = rw (p, q, r) refl

-- an answer where the outputs were as they are at the start
pub answers_back : {a : Answer definition.Resolved} {g₀ g g' : List ℕ} {e : ℕ} {n₀ n n' : List (List ℕ)} {w' : List ℕ} (r : Resolved)
    → g ≡ g₀
    → n ≡ n₀
    → Answers a g e n g' n' w' r
    → Answers a g₀ e n₀ g' n' w' r
answers_back {a} {g₀} {g} {g'} {e} {n₀} {n} {n'} {w'} r h k x =
    subst (λ (y : List ℕ). Answers a y e n₀ g' n' w' r) h (subst (λ (y : List (List ℕ)). Answers a g e y g' n' w' r) k x)
