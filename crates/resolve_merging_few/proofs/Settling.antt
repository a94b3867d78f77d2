-- The passes together, and the answer as document 01 has it.
-- Assumes nothing.
use Prim.Native.Nat.{ℕ, ◌≤◌}
use native.Mathlib.Omega.{arith}
use mathlib.Core.Path.{◌≡◌, refl, sym, ◌∙◌, ap}
use mathlib.Core.Bool.{false}
use mathlib.Core.List.{List, [], map}
use mathlib.Core.Option.{some, none}
use lib.Dec.{eqb}
use lib.ListN.{take}
use Rattle.text.specs.Lists.{any, firsts}
use Rattle.std.specs.Prelude as prelude
use Rattle.resolve_merging.specs.Packing.{bare}
use Rattle.resolve_merging.specs.Runs.{remaining_in, forced_in, united_in}
use Rattle.resolve_merging.specs.Passes.{found_as, found_of, Left}
use Rattle.resolve_merging.specs.Outcomes.{Settles}
use Rattle.resolve_merging.proofs.TableLaws.{kept_self, kept_on}
use Rattle.resolve_merging.proofs.Settling.{forced_settles, merged_settles}
use Rattle.resolve_merging_few.specs.Sieves as passes
use Rattle.resolve_merging_few.specs.Sought as sought
use Rattle.resolve_merging_few.specs.Scans.{passes_by}
use Rattle.resolve_merging_few.specs.Passes.{stay_by, twins_gone}
use Rattle.resolve_merging_few.proofs.Staying.{overridden_gone, none-explicit, twins_gone_lem, none-mandatory}

-- what is left is another run, or is all
left_as : {l m a b : List ℕ} {n r : ℕ} → l ≡ m → Left l n a b r → Left m n a b r
left_as e v = record { kept = v.kept; few = v.few; numbers = v.numbers ∙ e }

left-all : {l : List ℕ} (a : List ℕ) (n : ℕ) → take n a ≡ l → Left l n a a n
left-all a n e = record { kept = kept_self a; few = omega arith; numbers = e }

module _ {a b : List ℕ} {n r : ℕ} where
  pub remain_left : Left (stay_by passes.Overridden [] (take n a)) n a b r → Left (remaining_in (take n a)) n a b r
  remain_left = left_as (overridden_gone (take n a))

  pub twins_left : Left (stay_by passes.AlsoMandatory [] (take n a)) n a b r → Left (twins_gone (take n a)) n a b r
  twins_left = left_as (twins_gone_lem (take n a))

module _ (a : List ℕ) (n : ℕ) where
  pub remain_all : any (passes_by sought.Explicit) (take n a) ≡ false → Left (remaining_in (take n a)) n a a n
  remain_all h = left-all a n (none-explicit (take n a) h)

  pub twins_all : any (passes_by sought.Mandatory) (take n a) ≡ false → Left (twins_gone (take n a)) n a a n
  twins_all h = left-all a n (none-mandatory (take n a) h)

-- without twins and without repeats
unite_left :
    {a b c : List ℕ} {n k r : ℕ} → Left (twins_gone (take n a)) n a b k → Left (firsts eqb (map bare (take k b))) k b c r
    → Left (united_in (take n a)) n a c r
unite_left v w = record {
  kept = kept_on v.kept w.kept;
  few = omega (arith, v.few, w.few);
  numbers = w.numbers ∙ ap (λ (l : List ℕ). firsts eqb (map bare l)) v.numbers;
}

-- The answer, from what remains and what is found or merged.
module _ {a b : List ℕ} {n left : ℕ} {f : prelude.Option ℕ}
    (few : n ≤ 64) (v : Left (remaining_in (take n a)) n a b left) (w : found_as f ≡ forced_in (take left b)) where
  pub few_forced : (s : ℕ) → f ≡ prelude.Some s → Settles n a b (prelude.Err (record { statement = s }))
  few_forced s g =
      forced_settles {f = found_of (some s)} (omega arith) v
      record { kept = kept_self b; terms = refl; answer = sym (ap found_as g) ∙ w }
      s
      refl

  pub few-merged :
      {d d' : List ℕ} {k m : ℕ} → f ≡ prelude.None → Left (twins_gone (take left b)) left b d k
      → Left (firsts eqb (map bare (take k d))) k d d' m
      → Settles n a d' (prelude.Ok m)
  few-merged g t u =
      merged_settles {f = found_of none} (omega arith) v
      record { kept = kept_self b; terms = refl; answer = sym (ap found_as g) ∙ w }
      refl
      (unite_left t u)
