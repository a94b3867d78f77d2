-- Numbers that are written behind one that is written after them.
-- Assumes nothing.
use Prim.Native.Nat.{ℕ, zero, suc, ◌+◌}
use native.Mathlib.Numerals.{add-one}
use native.Mathlib.Omega.{arith}
use mathlib.Core.Path.{◌≡◌, refl, ◌∙◌, ap}
use mathlib.Core.List.{List, [], ◌∷◌}
use lib.ListN.{length}
use Rattle.text.specs.Lists.{all}
use Rattle.text.proofs.Tests.{and_left, and_right, both}
use Rattle.print_writing.specs.Written.{patch, Written}
use Rattle.print_writing.proofs.Writing.{patch-none}
use Rattle.numbers_statement.specs.Ready.{is_small, Ready}

patch-before : (at : ℕ) (xs ns : List ℕ) (x : ℕ) → patch at (patch (suc at) xs ns) (x ∷ []) ≡ patch at xs (x ∷ ns)
unfolding patch
patch-before at [] ns x = refl
patch-before zero (y ∷ ys) ns x = ap (λ (l : List ℕ). x ∷ l) (patch-none zero (patch zero ys ns))
patch-before (suc at) (y ∷ ys) ns x = ap (λ (l : List ℕ). y ∷ l) (patch-before at ys ns x)

pub written-before :
    {a b c ns : List ℕ} {at n m x : ℕ} → Written a (at + 1) ns b n → Written b at (x ∷ []) c m → Written a at (x ∷ ns) c n
written-before {a} {b} {c} {ns} {at} {n} {m} {x} v w = record {
  next = omega (arith, v.next);
  bytes =
      w.bytes
      ∙ ap (λ (l : List ℕ). patch at l (x ∷ [])) (v.bytes ∙ ap (λ (k : ℕ). patch k a ns) (add-one at))
      ∙ patch-before at a ns x;
}

-- Each of the two can be written if both can.
pub ready_behind : {at x : ℕ} {ns : List ℕ} → Ready at (x ∷ ns) → Ready (at + 1) ns
ready_behind {at} {x} {ns} r = record { room = omega (arith, r.room); small = and_right (is_small x) (all is_small ns) r.small }

pub ready_before : {at x : ℕ} {ns : List ℕ} → Ready at (x ∷ ns) → Ready at (x ∷ [])
ready_before {at} {x} {ns} r = record { room = omega (arith, r.room); small = both (and_left (is_small x) (all is_small ns) r.small) refl }
