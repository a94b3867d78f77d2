-- A number's digits, written: its only digit, or those of its tens and then its last.
-- Assumes nothing.
use mathlib.Core.Path.{ap}
use mathlib.Core.List.{List, [], ◌∷◌}
use Prim.Native.Nat.{ℕ, ◌/◌, ◌%◌, ◌≤◌, ◌<◌}
use native.Mathlib.Omega.{arith}
use lib.ListN.{length}
use Rattle.counts.specs.Decimal.{digit_for, digits_of}
use Rattle.counts.proofs.Decimal.{digits_of-small, digits_of-more}
use Rattle.print_writing.specs.Written.{Room, Written}
use Rattle.print_writing.proofs.Writing.{written_on, room-before, room-behind}

pub one-digit : {a b : List ℕ} {at r : ℕ} (n : ℕ) → n < 10 → Written a at (digit_for n ∷ []) b r → Written a at (digits_of n) b r
one-digit n h w = rw (digits_of-small n h) w

pub more_digits :
    {a b c : List ℕ} {at m r : ℕ} (n : ℕ)
    → 10 ≤ n
    → Written a at (digits_of (n / 10)) b m
    → Written b m (digit_for (n % 10) ∷ []) c r
    → Written a at (digits_of n) c r
more_digits n h v w = rw (digits_of-more n h) (written_on v w)

pub room-digit : (at n : ℕ) → n < 10 → Room at (digits_of n) → Room at (digit_for n ∷ [])
room-digit at n h r = omega (arith, ap length (digits_of-small n h))

pub room_tens : (at n : ℕ) → 10 ≤ n → Room at (digits_of n) → Room at (digits_of (n / 10))
room_tens at n h r = room-before at (digits_of (n / 10)) (digit_for (n % 10) ∷ []) (rw (digits_of-more n h) at r)

pub room-last :
    {a b : List ℕ} {at m : ℕ} (n : ℕ)
    → 10 ≤ n
    → Room at (digits_of n)
    → Written a at (digits_of (n / 10)) b m
    → Room m (digit_for (n % 10) ∷ [])
room-last {at = at} n h r w =
    let e = room-behind at (digits_of (n / 10)) (digit_for (n % 10) ∷ []) (rw (digits_of-more n h) at r) in
    omega (arith, w.next, e)
