-- Numbers that are written piece after piece: each piece can be written if all can.
-- Assumes nothing.
use mathlib.Core.Path.{◌≡◌, sym, subst}
use mathlib.Core.Bool.{true}
use mathlib.Core.List.{List, [], ◌∷◌, ◌++◌}
use Prim.Native.Nat.{ℕ, ◌≤◌}
use borrow.Author.Tests.{leb-true}
use Rattle.text.proofs.Tests.{and_left}
use Rattle.print_writing.specs.Written.{Written}
use Rattle.print_writing.proofs.Going.{Going, room-left, room-first}
use Rattle.text.proofs.Passing.{all_left, all_right}
use Rattle.numbers_statement.specs.Ready.{is_small, Ready}

-- one number
pub is_small_lem : {at n : ℕ} → Ready at (n ∷ []) → n ≤ 4294967295
is_small_lem {n = n} r = leb-true n 4294967295 (and_left (is_small n) true r.small)

-- the same numbers, told in another way
pub ready_same : {at : ℕ} {ns ms : List ℕ} → ns ≡ ms → Ready at ns → Ready at ms
ready_same {at} e r = subst (Ready at) e r

pub written_same : {before ns ms after : List ℕ} {at r : ℕ} → ns ≡ ms → Written before at ms after r → Written before at ns after r
written_same {before} {after = after} {at = at} {r = r} e w = subst (λ (l : List ℕ). Written before at l after r) (sym e) w

module _ {before : List ℕ} {at : ℕ} {whole now : List ℕ} {next : ℕ} where
  pub ready_left : {left : List ℕ} → Ready at whole → Going before at whole now next left → Ready next left
  ready_left {left} r g = record { room = room-left r.room g; small = all_right is_small g.done left (rw g.whole at r.small) }

  pub ready_first : (bs left : List ℕ) → Ready at whole → Going before at whole now next (bs ++ left) → Ready next bs
  ready_first bs left r g = record {
    room = room-first bs left r.room g;
    small = all_left is_small bs left (ready_left r g).small;
  }
