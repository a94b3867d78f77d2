-- Runs of bytes: how a run from an offset goes on, stops, or ends with the text.
-- Assumes nothing.
use mathlib.Core.Path.{◌≡◌, ◌∙◌, sym}
use mathlib.Core.Bool.{Bool, true, false, cond}
use mathlib.Core.List.{List, [], ◌∷◌}
use Prim.Native.Nat.{ℕ, suc, ◌+◌, ◌<◌, ◌≤◌}
use native.Mathlib.Nat.{add-zero, add-suc, suc-add}
use native.Mathlib.Numerals.{add-one}
use native.Mathlib.Omega.{arith}
use lib.ListN.{length, get_or, drop, drop_of_length-le}
use lib.Seq.{drop-cons}
use Rattle.text.specs.Bytes.{span}

-- a run takes no more bytes than there are
pub span-most : (p : ℕ → Bool) (s : List ℕ) → span p s ≤ length s
span-most p [] = omega arith
span-most p (b ∷ bs) = go (p b) (span-most p bs)
  where
    go : (t : Bool) → span p bs ≤ length bs → cond t (suc (span p bs)) 0 ≤ suc (length bs)
    go true h = omega arith
    go false h = omega arith

-- a run from one offset has come to another: as many bytes as were passed, and as many as still pass the test, are all that pass it
pub record Ran (p : ℕ → Bool) (s : List ℕ) (at i : ℕ) : Type 0 where
  pub within : i ≤ length s
  pub same : i + span p (drop i s) ≡ at + span p (drop at s)

module _ {p : ℕ → Bool} {s : List ℕ} {at i : ℕ} (r : Ran p s at i) where
  -- at the text's end
  pub ran_ends : length s ≤ i → i ≡ at + span p (drop at s)
  ran_ends h = simp (drop_of_length-le s h, add-zero) at r.same

  -- at a byte that fails the test
  pub ran_stops : i < length s → p (get_or s i 0) ≡ false → i ≡ at + span p (drop at s)
  ran_stops h e = simp (drop-cons s i 0 h, e, add-zero) at r.same

  -- at a byte that passes it
  pub ran_on : i < length s → p (get_or s i 0) ≡ true → Ran p s at (i + 1)
  ran_on h e =
      record {
        within = omega arith;
        same = simp (add-one) (suc-add i _ ∙ sym (add-suc i _) ∙ simp (drop-cons s i 0 h, e) at r.same);
      }
