-- A working buffer that is too short comes first.
-- Assumes nothing.
use Prim.Native.Nat.{ℕ, ◌≤◌, ◌<◌}
use mathlib.Core.Path.{◌≡◌, ap, sym}
use mathlib.Core.Bool.{Bool, cond}
use mathlib.Core.List.{List}
use borrow.Author.Tests.{lt-ltb, le-ltb}
use lib.ListN.{length, replicate}
use Rattle.reading.specs.Answer.{refused}
use Rattle.resolving.specs.Faults.{too_short}
use Rattle.resolving.specs.Handed.{resolve_handed}
use Rattle.resolving.specs.Call.{Lengths, room_for, resolving_call, work_after}

module _ (limit : ℕ) (b l s : List ℕ) where
  module _ (n : Lengths) (w : List ℕ) where
    pub short-call : length w < 2048 → resolving_call limit b l s n (length w) ≡ refused 19 0
    unfolding resolving_call
    short-call h =
        ap (λ (t : Bool). cond t (refused too_short 0) (room_for n (resolve_handed limit b l s))) (lt-ltb (length w) 2048 h)

    pub long-call : 2048 ≤ length w → resolving_call limit b l s n (length w) ≡ room_for n (resolve_handed limit b l s)
    unfolding resolving_call
    long-call h =
        ap (λ (t : Bool). cond t (refused too_short 0) (room_for n (resolve_handed limit b l s))) (le-ltb (length w) 2048 h)

pub short_work : (w : List ℕ) → length w < 2048 → w ≡ work_after w
short_work w h = sym (ap (λ (t : Bool). cond t w (replicate (length w) 0)) (lt-ltb (length w) 2048 h))
