-- Bytes that are written piece after piece: some were written, and some are left. Each piece has room if all have.
-- Assumes nothing.
use mathlib.Core.Path.{◌≡◌, refl, ◌∙◌, ap, sym}
use mathlib.Core.List.{List, [], ◌++◌, append_assoc, append-nil}
use Prim.Native.Nat.{ℕ}
use native.Mathlib.Omega.{arith}
use lib.ListN.{length}
use Rattle.print_writing.specs.Written.{Room, Written}
use Rattle.print_writing.proofs.Writing.{nothing_written, written_on, room-before, room-behind, same-room}

-- of `all` bytes, to be written into `before` from `at` on, `left` are left, and `now` and `next` are what is there by now
pub record Going {A : Type 0} (before : List A) (at : ℕ) (all now : List A) (next : ℕ) (left : List A) : Type 0 where
  pub done : List A
  pub whole : all ≡ done ++ left
  pub written : Written before at done now next

-- nothing yet
pub going : {A : Type 0} (before : List A) (at : ℕ) (all : List A) → Going before at all before at all
going before at all = record { done = []; whole = refl; written = nothing_written before at }

module _ {A : Type 0} {before : List A} {at : ℕ} {all now : List A} {next : ℕ} where
  -- what is left, told in another way
  pub told : {left left' : List A} → left ≡ left' → Going before at all now next left → Going before at all now next left'
  told e g = record { done = g.done; whole = g.whole ∙ ap (λ (l : List A). g.done ++ l) e; written = g.written }

  -- one piece more
  pub further :
      {bs left now' : List A} {next' : ℕ}
      → Going before at all now next (bs ++ left)
      → Written now next bs now' next'
      → Going before at all now' next' left
  further {bs} {left} g w = record {
    done = g.done ++ bs;
    whole = g.whole ∙ sym (append_assoc g.done bs left);
    written = written_on g.written w;
  }

  -- the last piece
  pub finished :
      {left now' : List A} {next' : ℕ}
      → Going before at all now next left
      → Written now next left now' next'
      → Written before at all now' next'
  finished g w = rw g.whole (written_on g.written w)

  -- nothing left
  pub no_more : Going before at all now next [] → Written before at all now next
  no_more g = rw (g.whole, append-nil) g.written

  pub room-left : {left : List A} → Room at all → Going before at all now next left → Room next left
  room-left {left} r g =
      let h = room-behind at g.done left (rw g.whole at r) in
      omega (arith, g.written.next, h)

  pub room-first : (bs left : List A) → Room at all → Going before at all now next (bs ++ left) → Room next bs
  room-first bs left r g = room-before next bs left (room-left r g)

  pub as_long : {left : List A} → Going before at all now next left → length now ≡ length before
  as_long g = same-room g.written
