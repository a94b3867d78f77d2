-- What a call answers that fills an output, by whether the output has room.
-- Assumes nothing.
use mathlib.Core.Path.{◌≡◌, ◌∙◌, ap, sym}
use mathlib.Core.Bool.{Bool, true, false, cond}
use mathlib.Core.List.{List, [], ◌++◌}
use Prim.Native.Nat.{ℕ, ◌≤◌, ◌<◌}
use native.Mathlib.Nat.{zero-add}
use borrow.Author.Tests.{lt-ltb, le-ltb}
use lib.Dec.{ltb}
use lib.ListN.{length}
use Rattle.reading.specs.Answer.{Answer, accepted, refused}
use Rattle.canonical.specs.Print.{length_of, fitting, output, Answers}
use Rattle.print_writing.specs.Written.{patch, Written}
use Rattle.print_writing.proofs.Writing.{patch-empty, patch_front}

-- a buffer of which no part was lent for writing is as it was
pub none_lent : (before none after : List ℕ) (bs : List ℕ) (r : ℕ) → none ≡ [] → Written none 0 bs after r → after ++ before ≡ before
none_lent before none after bs r e w = ap (λ (l : List ℕ). l ++ before) (w.bytes ∙ ap (λ (l : List ℕ). patch 0 l bs) e ∙ patch-empty 0 bs)

module _ (before : List ℕ) (a : Answer (List ℕ)) where
  -- a refusal is handed on
  pub refused_answers : (n p : ℕ) → a ≡ refused n p → Answers a before before (refused n p)
  refused_answers n p e =
      record {
        told = sym (ap (λ (x : Answer (List ℕ)). length_of (fitting (length before) x)) e);
        left = sym (ap (λ (x : Answer (List ℕ)). output (fitting (length before) x) before) e);
      }

  module _ (bs : List ℕ) (e : a ≡ accepted bs) where
    by-room : (t : Bool) → ltb (length before) (length bs) ≡ t → fitting (length before) a ≡ cond t (refused 19 0) (accepted bs)
    by-room t h = ap (fitting (length before)) e ∙ ap (λ (b : Bool). cond b (refused 19 0) (accepted bs)) h

    -- there is room
    pub room_answers : (after : List ℕ) (r : ℕ) → length bs ≤ length before → Written before 0 bs after r → Answers a before after (accepted r)
    room_answers after r h w =
        let fits = by-room false (le-ltb (length before) (length bs) h) in
        record {
          told = ap accepted (w.next ∙ zero-add (length bs)) ∙ sym (ap length_of fits);
          left = w.bytes ∙ patch_front before bs h ∙ sym (ap (λ (x : Answer (List ℕ)). output x before) fits);
        }

    -- there is none, and nothing was written
    pub short-answers : (after : List ℕ) → length before < length bs → after ≡ before → Answers a before after (refused 19 0)
    short-answers after h q =
        let lacks = by-room true (lt-ltb (length before) (length bs) h) in
        record { told = sym (ap length_of lacks); left = q ∙ sym (ap (λ (x : Answer (List ℕ)). output x before) lacks) }
