-- The table: what is kept beside it, and what a run of terms makes of a pair's number.
-- Assumes nothing.
use Prim.Native.Nat.{ℕ, ◌+◌, ◌≤◌, ◌<◌}
use native.Mathlib.Numerals.{add-one}
use native.Mathlib.Omega.{arith}
use mathlib.Core.Path.{◌≡◌, refl, sym, ◌∙◌, ap, subst}
use mathlib.Core.Bool.{Bool, true, false, cond}
use mathlib.Core.List.{List, [], ◌∷◌, ◌++◌}
use borrow.Author.Tests.{eq-eqb, eqb-true, eqb-false}
use lib.Dec.{eqb}
use lib.ListN.{length, take, get_or, set, length-set}
use lib.Seq.{take-suc, take-take, get_or-take, get_or-set_same, get_or-set_other, take-set-le, drop-set-lt}
use Rattle.resolve_merging.specs.Packing.{pair_of}
use Rattle.resolve_merging.specs.Tables.{place, entry, Kept, updated, tally, Tallied, Agree, zeros, Anew}

pub kept_self : (a : List ℕ) → Kept a a
kept_self a = record { size = refl; behind = refl }

pub kept_on : {a b c : List ℕ} → Kept a b → Kept b c → Kept a c
kept_on k m = record { size = m.size ∙ k.size; behind = m.behind ∙ k.behind }

pub kept_set : (a : List ℕ) (i x : ℕ) → i < 6656 → Kept a (set a i x)
kept_set a i x h = record { size = length-set a i x; behind = drop-set-lt 6656 a i x h }

pub pair_below : (w : ℕ) → pair_of w < 4096
pair_below w = omega arith

-- the first terms of two buffers that have the same up to 2,048
pub take_front : (a b : List ℕ) (n : ℕ) → n ≤ 2048 → take 2048 b ≡ take 2048 a → take n b ≡ take n a
take_front a b n h e = sym (take-take n 2048 b h) ∙ ap (take n) e ∙ take-take n 2048 a h

pub get_d_front : (a b : List ℕ) (i : ℕ) → i < 2048 → take 2048 b ≡ take 2048 a → get_or b i 0 ≡ get_or a i 0
get_d_front a b i h e = sym (get_or-take 2048 b i 0 h) ∙ ap (λ (l : List ℕ). get_or l i 0) e ∙ get_or-take 2048 a i 0 h

pub take_more : (a : List ℕ) (i : ℕ) → i < length a → take (i + 1) a ≡ take i a ++ get_or a i 0 ∷ []
take_more a i h = ap (λ (k : ℕ). take k a) (add-one i) ∙ take-suc a i 0 h

-- one number of the table set: itself, and the others
pub entry_set : (a : List ℕ) (q x p : ℕ) → 6656 ≤ length a → q < 4096 → entry (set a (2048 + q) x) p ≡ cond (eqb q p) x (entry a p)
entry_set a q x p room h = by_cases (eqb q p) refl
  where
    by_cases : (t : Bool) → eqb q p ≡ t → entry (set a (2048 + q) x) p ≡ cond t x (entry a p)
    by_cases true e =
        ap (λ (k : ℕ). get_or (set a (2048 + q) x) (2048 + k) 0) (sym (eqb-true q p e)) ∙ get_or-set_same a (2048 + q) x 0 (omega arith)
    by_cases false e = get_or-set_other a (2048 + q) (2048 + p) x 0 (λ i. eqb-false q p e (omega arith))

module _ (step : ℕ → ℕ → ℕ) where
  pub tally-more : (t : ℕ → ℕ) (l : List ℕ) (w : ℕ) → tally step t (l ++ w ∷ []) ≡ updated step (tally step t l) w
  tally-more t [] w = refl
  tally-more t (x ∷ l) w = tally-more (updated step t x) l w

  -- a pair's number depends on no other
  pub tally_at : (t s : ℕ → ℕ) (p : ℕ) → t p ≡ s p → (l : List ℕ) → tally step t l p ≡ tally step s l p
  tally_at t s p e [] = e
  tally_at t s p e (w ∷ l) =
      tally_at (updated step t w) (updated step s w) p (ap (λ (v : ℕ). cond (eqb (pair_of w) p) (step w v) v) e) l

  pub tallied-none : (a : List ℕ) → Tallied step [] a a
  tallied-none a = record { kept = kept_self a; terms = refl; groups = refl; entries = λ p h. refl }

  -- the table after one term more
  pub entries_next :
      (a b : List ℕ) (i : ℕ) → 6656 ≤ length a → i < length a → length b ≡ length a
      → ((p : ℕ) → p < 4096 → entry b p ≡ tally step (entry a) (take i a) p)
      → (w : ℕ) → w ≡ get_or a i 0 → (p : ℕ) → p < 4096
      → entry (set b (place w) (step w (entry b (pair_of w)))) p ≡ tally step (entry a) (take (i + 1) a) p
  entries_next a b i room few same es w q p h =
      entry_set b (pair_of w) (step w (entry b (pair_of w))) p (omega (arith, same)) (pair_below w)
      ∙ by_cases (eqb (pair_of w) p) refl
      ∙ ap (λ (k : ℕ). updated step (tally step (entry a) (take i a)) k p) q
      ∙ ap (λ (t : ℕ → ℕ). t p) (sym (ap (tally step (entry a)) (take_more a i few) ∙ tally-more (entry a) (take i a) (get_or a i 0)))
    where
      by_cases : (t : Bool) → eqb (pair_of w) p ≡ t
          → cond t (step w (entry b (pair_of w))) (entry b p)
          ≡ cond t (step w (tally step (entry a) (take i a) p)) (tally step (entry a) (take i a) p)
      by_cases true e = ap (step w) (ap (entry b) (eqb-true (pair_of w) p e) ∙ es p h)
      by_cases false e = es p h

  pub tallied-next :
      {a b c : List ℕ} (i : ℕ) → 6656 ≤ length a → i < 2048 → Tallied step (take i a) a b
      → (w : ℕ) → w ≡ get_or b i 0 → c ≡ set b (place w) (step w (entry b (pair_of w))) → Tallied step (take (i + 1) a) a c
  tallied-next {a} {b} {c} i room few v w q e =
      subst (λ (x : List ℕ). Tallied step (take (i + 1) a) a x) (sym e) record {
        kept = kept_on v.kept (kept_set b (place w) (step w (entry b (pair_of w))) (omega arith));
        terms = take-set-le 2048 b (place w) (step w (entry b (pair_of w))) (omega arith) ∙ v.terms;
        groups = drop-set-lt 6144 b (place w) (step w (entry b (pair_of w))) (omega arith) ∙ v.groups;
        entries = entries_next a b i room (omega arith) v.kept.size v.entries w (q ∙ get_d_front a b i few v.terms);
      }

-- the same numbers for the pairs of a run
pub agree_all : (t s : ℕ → ℕ) (l : List ℕ) → ((p : ℕ) → p < 4096 → t p ≡ s p) → Agree l t s
agree_all t s [] h = tt
agree_all t s (w ∷ l) h = (h (pair_of w) (pair_below w), agree_all t s l h)

pub agree_on : (t s u : ℕ → ℕ) (l : List ℕ) → Agree l t s → Agree l s u → Agree l t u
agree_on t s u [] g h = tt
agree_on t s u (w ∷ l) g h = (g.0 ∙ h.0, agree_on t s u l g.1 h.1)

pub agree_tally : (step : ℕ → ℕ → ℕ) (t s : ℕ → ℕ) (m l : List ℕ) → Agree l t s → Agree l (tally step t m) (tally step s m)
agree_tally step t s m [] h = tt
agree_tally step t s m (w ∷ l) h = (tally_at step t s (pair_of w) h.0 m, agree_tally step t s m l h.1)

-- cleared
stays-zero : (t : ℕ → ℕ) (p : ℕ) → t p ≡ 0 → (l : List ℕ) → tally (λ w v. 0) t l p ≡ 0
stays-zero t p e [] = e
stays-zero t p e (w ∷ l) = stays-zero (updated (λ w v. 0) t w) p (by_cases (eqb (pair_of w) p)) l
  where
    by_cases : (b : Bool) → cond b 0 (t p) ≡ 0
    by_cases true = refl
    by_cases false = e

pub cleared : (t : ℕ → ℕ) (l : List ℕ) → Agree l (tally (λ w v. 0) t l) zeros
cleared t [] = tt
cleared t (w ∷ l) =
    (stays-zero (updated (λ w v. 0) t w) (pair_of w) (rw (eq-eqb (pair_of w) (pair_of w) refl)) l, cleared (updated (λ w v. 0) t w) l)

pub cleared_table : {a b : List ℕ} {run : List ℕ} → Tallied (λ w v. 0) run a b → Agree run (entry b) zeros
cleared_table {a} {b} {run} v =
    agree_on (entry b) (tally (λ w v. 0) (entry a) run) zeros run (agree_all _ _ run v.entries) (cleared (entry a) run)

pub anew :
    (step : ℕ → ℕ → ℕ) {a b c : List ℕ} {n : ℕ} → n ≤ 2048 → Tallied (λ w v. 0) (take n a) a b → Tallied step (take n b) b c
    → Anew step (take n a) a c
anew step {a} {b} {c} {n} few v w = record {
  kept = kept_on v.kept w.kept;
  terms = w.terms ∙ v.terms;
  entries =
      agree_on (entry c) (tally step (entry b) (take n a)) (tally step zeros (take n a)) (take n a)
      (agree_all _ _ (take n a) (λ p h. w.entries p h ∙ ap (λ (l : List ℕ). tally step (entry b) l p) (take_front a b n few v.terms)))
      (agree_tally step (entry b) zeros (take n a) (take n a) (cleared_table v));
}
