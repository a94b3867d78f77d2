-- What an operand's entries tell, and that the ground statement of a feature is short.
-- Assumes nothing.
use Prim.Native.Nat.{ℕ, zero, suc, ◌≤◌}
use native.Mathlib.Omega.{arith}
use mathlib.Core.Path.{◌≡◌, refl}
use mathlib.Core.Bool.{Bool, true, false}
use mathlib.Core.List.{List, [], ◌++◌}
use borrow.Author.Tests.{leb-true, leb-false}
use lib.Dec.{leb}
use lib.ListN.{length, take, get_or, length-append, get_or-eq_default}
use lib.Seq.{length-take-le}
use Rattle.reading.specs.Answer.{Answer}
use Rattle.print_writing.specs.Written.{Room}
use Rattle.canonical.specs.Lines.{joint_of}
use Rattle.resolving.specs.Handed.{handed_context}
use Rattle.resolve_context.specs.declared.Layout.{Layout}
use Rattle.resolve_context.specs.Lists.{Stands, names_in}
use Rattle.resolve_context.proofs.Pairs.{names-length}
use Rattle.resolve_context.proofs.Meaning.{parameters-are, parameters_sound, sound_named}
use Rattle.resolve_operands.specs.Picked.{Picked}

-- an operand has as many indexes as it says
pub picked_many : {n : ℕ} {a : Answer (List ℕ)} {is : List ℕ} {k : ℕ} → Picked n a is k → length (take k is) ≡ k
picked_many {is = is} {k} p = length-take-le k is (omega (arith, p.size, p.few))

-- a name of the context has at most 32 bytes
pub names-short : (b l : List ℕ) (y : Layout) → Stands b l y → (i : ℕ) → length (get_or (handed_context b l).parameters i []) ≤ 32
names-short b l y s i = rw (parameters-are b l y s) (by_place (leb y.parameters.count i) refl)
  where
    by_place : (t : Bool) → leb y.parameters.count i ≡ t → length (get_or (names_in b l y.parameters) i []) ≤ 32
    by_place true e =
        let h : length (names_in b l y.parameters) ≤ i = omega (arith, names-length b l y.parameters, leb-true y.parameters.count i e) in
        rw (get_or-eq_default (names_in b l y.parameters) [] h) (omega arith)
    by_place false e =
        (sound_named b l y.parameters (parameters_sound b l y s) i (leb-false y.parameters.count i e)).few

joint_short : (n : ℕ) → length (joint_of n) ≤ 1
joint_short zero = omega arith
joint_short (suc n) = omega arith

module _ (n : ℕ) (bs : List ℕ) (h : length bs ≤ 20000) where
  pub piece-small : length (joint_of n ++ bs) ≤ 20001
  piece-small = omega (arith, joint_short n, length-append (joint_of n) bs)

  pub piece-room : (at : ℕ) → at ≤ 4294967296 → Room at (joint_of n ++ bs)
  piece-room at k = omega (arith, piece-small)
