-- A pair that is forced again, term by term: a scan of the terms before it tells what the table of `resolve_merging` would.
-- Assumes nothing.
use Prim.Native.Nat.{ℕ, ◌+◌, ◌/◌, ◌%◌, ◌≤◌, ◌<◌}
use native.Mathlib.Omega.{arith}
use mathlib.Core.Path.{◌≡◌, refl, sym, ◌∙◌, ap, subst}
use mathlib.Core.Bool.{Bool, false, cond, ◌&&◌}
use mathlib.Core.List.{List}
use mathlib.Core.Option.{some, none}
use lib.Dec.{eqb}
use lib.ListN.{length, take, get_or}
use Rattle.resolve_merging.specs.Packing.{pair_of}
use Rattle.resolve_merging.specs.Runs.{forced_in}
use Rattle.resolve_merging.specs.Tables.{tally, zeros}
use Rattle.resolve_merging.specs.Passes.{forcing, forced_by}
use Rattle.resolve_merging.proofs.TableLaws.{take_more}
use Rattle.resolve_merging.proofs.ForcedLaws.{Told, told_none, told-next, forced_from, forced_step, forced_end}
use Rattle.resolve_merging_few.specs.Scans.{forced_at}

-- The loop: of the terms so far none forces a pair again, and what is found from here on is what is found in all.
pub record Forcing (a : List ℕ) (i n : ℕ) : Type 0 where
  pub told : Told zeros (take i a)
  pub rest : forced_from a i n ≡ forced_in (take n a)

pub forcing-start : (a : List ℕ) (n : ℕ) → Forcing a 0 n
forcing-start a n = record { told = told_none zeros; rest = refl }

pub forcing-end : {a : List ℕ} {i n : ℕ} → n ≤ i → Forcing a i n → none ≡ forced_in (take n a)
forcing-end {a} {i} {n} h v = sym (forced_end a i n h) ∙ v.rest

-- the scan tells what the table would
scan_told : {l : List ℕ} (w : ℕ) → Told zeros l → forced_by w (tally forcing zeros l (pair_of w)) ≡ forced_at l w
scan_told w h = ap (λ (t : Bool). eqb (w % 2) 0 && t) (sym (h.lowest (pair_of w) refl (w / 262144)))

-- one term: it forces a pair again, or further on one does
module _ {a : List ℕ} {i n : ℕ} (so : i < n) (room : n ≤ length a) (v : Forcing a i n) where
  pub forcing_test : cond (forced_at (take i a) (get_or a i 0)) (some (get_or a i 0 / 262144)) (forced_from a (i + 1) n) ≡ forced_in (take n a)
  forcing_test =
      ap (λ (t : Bool). cond t (some (get_or a i 0 / 262144)) (forced_from a (i + 1) n)) (sym (scan_told (get_or a i 0) v.told))
      ∙ sym (forced_step a i n zeros v.told refl so room)
      ∙ v.rest

  pub forcing-next : forced_at (take i a) (get_or a i 0) ≡ false → Forcing a (i + 1) n
  forcing-next f = record {
    told =
        subst (Told zeros) (sym (take_more a i (omega arith)))
        (told-next (get_or a i 0) v.told (scan_told (get_or a i 0) v.told ∙ f));
    rest = ap (λ (t : Bool). cond t (some (get_or a i 0 / 262144)) (forced_from a (i + 1) n)) (sym f) ∙ forcing_test;
  }
