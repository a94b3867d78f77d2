-- A pass in place, one term after the other.
-- Assumes nothing.
use Prim.Native.Nat.{ℕ, ◌+◌, ◌≤◌, ◌<◌}
use native.Mathlib.Numerals.{add-one}
use native.Mathlib.Omega.{arith}
use mathlib.Core.Path.{◌≡◌, refl, sym, ◌∙◌, ap, ap₂, subst}
use mathlib.Core.Bool.{Bool, true, false, cond}
use mathlib.Core.List.{List, [], ◌∷◌, ◌++◌}
use lib.ListN.{length, take, drop, get_or, set}
use lib.Seq.{slice, take-suc-set, take-set-lt, drop-set-lt}
use Rattle.resolve_merging.specs.Tables.{Kept}
use Rattle.resolve_merging.specs.Passes.{Left}
use Rattle.resolve_merging.proofs.Scans.{slice_next, slice_past}
use Rattle.resolve_merging.proofs.TableLaws.{kept_self, kept_on, kept_set}
use Rattle.resolve_merging_few.specs.Sieves.{Pass}
use Rattle.resolve_merging_few.specs.Passes.{gone_by, stay_by, gone_at, Moved}

-- The loop: those that stay so far are the first, and with what stays of the others they are what stays of all.
pub record Sifting (pass : Pass) (a b : List ℕ) (at i n : ℕ) : Type 0 where
  pub kept : Kept a b
  pub few : at ≤ i
  pub rest : stay_by pass (take at b) (slice i n b) ≡ stay_by pass [] (take n a)

module _ (pass : Pass) where
  -- one term, as code has it
  module _ (b : List ℕ) (at i n : ℕ) where
    pub one_gone : {t : Bool} → t ≡ gone_at pass b at i n → t ≡ true → Moved pass b b at i n at
    one_gone d h = let g : gone_at pass b at i n ≡ true = sym d ∙ h in record { next = rw g; numbers = rw g }

    pub one_moved : {t : Bool} → t ≡ gone_at pass b at i n → t ≡ false → Moved pass b (set b at (get_or b i 0)) at i n (at + 1)
    one_moved d h = let g : gone_at pass b at i n ≡ false = sym d ∙ h in record { next = rw g; numbers = rw g }

  pub sifting_start : (a : List ℕ) (n : ℕ) → Sifting pass a a 0 0 n
  sifting_start a n = record { kept = kept_self a; few = omega arith; rest = refl }

  pub sifting_end : {a b : List ℕ} {at i n : ℕ} → i ≤ n → n ≤ i → Sifting pass a b at i n → Left (stay_by pass [] (take n a)) n a b at
  sifting_end {a} {b} {at} {i} {n} g h v = record {
    kept = v.kept;
    few = omega (arith, v.few);
    numbers = ap (stay_by pass (take at b)) (sym (slice_past b i n h)) ∙ v.rest;
  }

  module _ {a b : List ℕ} {at i n : ℕ} (so : i < n) (low : n ≤ 64) (room : n ≤ length a) (v : Sifting pass a b at i n) where
    -- what stays, by the test of this term
    by_test :
        stay_by pass (cond (gone_at pass b at i n) (take at b) (take at b ++ get_or b i 0 ∷ [])) (slice (i + 1) n b)
        ≡ stay_by pass [] (take n a)
    by_test =
        let e : slice i n b ≡ get_or b i 0 ∷ slice (i + 1) n b = slice_next b i n so (omega (arith, v.kept.size)) in
        ap
        (λ (l : List ℕ).
        stay_by pass (cond (gone_by pass (take at b) l (get_or b i 0)) (take at b) (take at b ++ get_or b i 0 ∷ [])) (slice (i + 1) n b))
        e
        ∙ sym (ap (stay_by pass (take at b)) e)
        ∙ v.rest

    goes : gone_at pass b at i n ≡ true → Sifting pass a b at (i + 1) n
    goes g = record { kept = v.kept; few = omega (arith, v.few); rest = rw g at by_test }

    -- those that are left stand as they did
    left_so : (x : ℕ) → slice (i + 1) n (set b at x) ≡ slice (i + 1) n b
    left_so x =
        ap (drop (i + 1)) (take-set-lt n b at x (omega (arith, v.few))) ∙ drop-set-lt (i + 1) (take n b) at x (omega (arith, v.few))

    moves : gone_at pass b at i n ≡ false → Sifting pass a (set b at (get_or b i 0)) (at + 1) (i + 1) n
    moves g =
        let x = get_or b i 0 in
        let front : take (at + 1) (set b at x) ≡ take at b ++ x ∷ [] =
        ap (λ (k : ℕ). take k (set b at x)) (add-one at) ∙ take-suc-set b at x (omega (arith, v.few, v.kept.size)) in
        record {
          kept = kept_on v.kept (kept_set b at x (omega (arith, v.few)));
          few = omega (arith, v.few);
          rest = ap₂ (stay_by pass) front (left_so x) ∙ rw g at by_test;
        }

    pub sifting-next : {c : List ℕ} {r : ℕ} → Moved pass b c at i n r → Sifting pass a c r (i + 1) n
    sifting-next {c} {r} m = by_cases (gone_at pass b at i n) refl m.numbers m.next
      where
        by_cases :
            (t : Bool) → gone_at pass b at i n ≡ t → c ≡ cond t b (set b at (get_or b i 0)) → r ≡ cond t at (at + 1)
            → Sifting pass a c r (i + 1) n
        by_cases true g e k =
            subst (λ (y : ℕ). Sifting pass a c y (i + 1) n) (sym k) (subst (λ (x : List ℕ). Sifting pass a x at (i + 1) n) (sym e) (goes g))
        by_cases false g e k =
            subst (λ (y : ℕ). Sifting pass a c y (i + 1) n) (sym k)
            (subst (λ (x : List ℕ). Sifting pass a x (at + 1) (i + 1) n) (sym e) (moves g))
