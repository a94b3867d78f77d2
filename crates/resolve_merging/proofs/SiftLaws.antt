-- A pass over the terms: what stays of a run, and of one term more.
-- Assumes nothing.
use Prim.Native.Nat.{ℕ, ◌+◌, ◌≤◌, ◌<◌}
use native.Mathlib.Numerals.{add-one}
use native.Mathlib.Omega.{arith}
use mathlib.Core.Path.{◌≡◌, refl, sym, ◌∙◌, ap, ap₂, subst}
use mathlib.Core.Bool.{Bool, true, false, cond, not}
use mathlib.Core.List.{List, [], ◌∷◌, ◌++◌, append_assoc}
use lib.Dec.{eqb}
use lib.ListN.{length, take, get_or, set, length-set}
use lib.Seq.{get_or-set_other, take-set-le, take-suc-set}
use Rattle.text.specs.Lists.{keep}
use Rattle.resolve_merging.specs.Sieves.{Pass}
use Rattle.resolve_merging.specs.Packing.{pair_of}
use Rattle.resolve_merging.specs.Tables.{place, entry, updated, tally, Agree}
use Rattle.resolve_merging.specs.Passes.{gone_by, entered_by, shown_by, stay_by, Sifted, entered_at, Moved}
use Rattle.resolve_merging.proofs.Mapped.{append-none}
use Rattle.resolve_merging.proofs.TableLaws.{kept_self, kept_on, kept_set, take_more, entries_next}

module _ (pass : Pass) where
  pub sifted_more :
      (t : ℕ → ℕ) (l : List ℕ) (w : ℕ)
      → stay_by pass t (l ++ w ∷ []) ≡ stay_by pass t l ++ cond (gone_by pass w (tally (entered_by pass) t l (pair_of w))) [] (shown_by pass w ∷ [])
  sifted_more t [] w = append-none (cond (gone_by pass w (t (pair_of w))) [] (shown_by pass w ∷ []))
  sifted_more t (x ∷ l) w =
      ap (λ (m : List ℕ). cond (gone_by pass x (t (pair_of x))) [] (shown_by pass x ∷ []) ++ m) (sifted_more (updated (entered_by pass) t x) l w)
      ∙ sym
      (append_assoc
      (cond (gone_by pass x (t (pair_of x))) [] (shown_by pass x ∷ []))
      (stay_by pass (updated (entered_by pass) t x) l)
      (cond (gone_by pass w (tally (entered_by pass) (updated (entered_by pass) t x) l (pair_of w))) [] (shown_by pass w ∷ [])))

  -- what stays depends on the numbers of the run's own pairs
  pub sifted_agree : (t s : ℕ → ℕ) (l : List ℕ) → Agree l t s → stay_by pass t l ≡ stay_by pass s l
  sifted_agree t s [] h = refl
  sifted_agree t s (w ∷ l) h =
      ap₂ ◌++◌
      (ap (λ (v : ℕ). cond (gone_by pass w v) [] (shown_by pass w ∷ [])) h.0)
      (sifted_agree (updated (entered_by pass) t w) (updated (entered_by pass) s w) l (both l h.1))
    where
      both : (m : List ℕ) → Agree m t s → Agree m (updated (entered_by pass) t w) (updated (entered_by pass) s w)
      both [] g = tt
      both (x ∷ m) g = (ap (λ (v : ℕ). cond (eqb (pair_of w) (pair_of x)) (entered_by pass w v) v) g.0, both m g.1)

  -- a pass that leaves the table and the terms as they are keeps some
  pub sifted_keep :
      ((w v : ℕ) → entered_by pass w v ≡ v) → ((w : ℕ) → shown_by pass w ≡ w)
      → (t : ℕ → ℕ) (l : List ℕ) → stay_by pass t l ≡ keep (λ w. not (gone_by pass w (t (pair_of w)))) l
  sifted_keep same own t [] = refl
  sifted_keep same own t (w ∷ l) =
      ap₂
      (λ (x : ℕ) (m : List ℕ). cond (gone_by pass w (t (pair_of w))) [] (x ∷ []) ++ m)
      (own w)
      (sifted_agree (updated (entered_by pass) t w) t l (unchanged l) ∙ sifted_keep same own t l)
      ∙ by_cases (gone_by pass w (t (pair_of w))) (keep (λ w. not (gone_by pass w (t (pair_of w)))) l)
    where
      one : (b : Bool) (v : ℕ) → cond b (entered_by pass w v) v ≡ v
      one true v = same w v
      one false v = refl

      unchanged : (m : List ℕ) → Agree m (updated (entered_by pass) t w) t
      unchanged [] = tt
      unchanged (x ∷ m) = (one (eqb (pair_of w) (pair_of x)) (t (pair_of x)), unchanged m)

      by_cases : (b : Bool) (m : List ℕ) → cond b [] (w ∷ []) ++ m ≡ cond (not b) (w ∷ m) m
      by_cases true m = refl
      by_cases false m = refl

  -- one term of the pass, as code makes it: the place of its pair, the number there, and the term
  module _ (a : List ℕ) (i at : ℕ) {k x : ℕ} (p : k ≡ place (get_or a i 0)) (e : x ≡ entered_by pass (get_or a i 0) (get_or a k 0)) where
    entered-there : set a k x ≡ entered_at pass a (get_or a i 0)
    entered-there = ap₂ (set a) p (e ∙ ap (λ (j : ℕ). entered_by pass (get_or a i 0) (get_or a j 0)) p)

    same_test : {t : Bool} → gone_by pass (get_or a i 0) (get_or a k 0) ≡ t → gone_by pass (get_or a i 0) (entry a (pair_of (get_or a i 0))) ≡ t
    same_test g = ap (λ (j : ℕ). gone_by pass (get_or a i 0) (get_or a j 0)) (sym p) ∙ g

    pub one_gone : gone_by pass (get_or a i 0) (get_or a k 0) ≡ true → Moved pass a (set a k x) i at at
    one_gone g =
        let h : gone_by pass (get_or a i 0) (entry a (pair_of (get_or a i 0))) ≡ true = same_test g in
        record { next = rw h; numbers = rw h entered-there }

    pub one_moved :
        {y : ℕ} → gone_by pass (get_or a i 0) (get_or a k 0) ≡ false → y ≡ shown_by pass (get_or a i 0)
        → Moved pass a (set (set a k x) at y) i at (at + 1)
    one_moved g d =
        let h : gone_by pass (get_or a i 0) (entry a (pair_of (get_or a i 0))) ≡ false = same_test g in
        record { next = rw h; numbers = rw h (ap₂ (λ (l : List ℕ) (z : ℕ). set l at z) entered-there d) }

  pub sifted_start : (a : List ℕ) → Sifted pass a a 0 0
  sifted_start a = record {
    kept = kept_self a;
    few = omega arith;
    numbers = refl;
    ahead = λ j h g. refl;
    entries = λ p h. refl;
  }

  -- one term more, moved to the front or gone
  module _ {a b : List ℕ} (i at : ℕ) (room : 6656 ≤ length a) (low : i < 2048) (v : Sifted pass a b i at) where
    grown : (w : ℕ) → w ≡ get_or a i 0
        → stay_by pass (entry a) (take i a) ++ cond (gone_by pass w (entry b (pair_of w))) [] (shown_by pass w ∷ [])
        ≡ stay_by pass (entry a) (take (i + 1) a)
    grown w q =
        ap
        (λ (u : ℕ). stay_by pass (entry a) (take i a) ++ cond (gone_by pass w u) [] (shown_by pass w ∷ []))
        (v.entries (pair_of w) (omega arith))
        ∙ sym (sifted_more (entry a) (take i a) w)
        ∙ ap (λ (x : ℕ). stay_by pass (entry a) (take i a ++ x ∷ [])) q
        ∙ sym (ap (stay_by pass (entry a)) (take_more a i (omega arith)))

    goes : (w : ℕ) → w ≡ get_or a i 0 → gone_by pass w (entry b (pair_of w)) ≡ true
        → Sifted pass a (entered_at pass b w) (i + 1) at
    goes w q g =
        let x = entered_by pass w (entry b (pair_of w)) in
        let more : stay_by pass (entry a) (take i a) ++ [] ≡ stay_by pass (entry a) (take (i + 1) a) = rw g at (grown w q) in
        record {
          kept = kept_on v.kept (kept_set b (place w) x (omega arith));
          few = omega (arith, v.few);
          numbers =
              take-set-le at b (place w) x (omega (arith, v.few)) ∙ v.numbers ∙ sym (append-none (stay_by pass (entry a) (take i a))) ∙ more;
          ahead = λ j h k. get_or-set_other b (place w) j x 0 (λ e. omega arith) ∙ v.ahead j (omega arith) k;
          entries = entries_next (entered_by pass) a b i room (omega arith) v.kept.size v.entries w q;
        }

    moves : (w : ℕ) → w ≡ get_or a i 0 → gone_by pass w (entry b (pair_of w)) ≡ false
        → Sifted pass a (set (entered_at pass b w) at (shown_by pass w)) (i + 1) (at + 1)
    moves w q g =
        let x = entered_by pass w (entry b (pair_of w)) in
        let y = shown_by pass w in
        let more : stay_by pass (entry a) (take i a) ++ y ∷ [] ≡ stay_by pass (entry a) (take (i + 1) a) = rw g at (grown w q) in
        let wide : at < length (set b (place w) x) = omega (arith, length-set b (place w) x, v.few, v.kept.size) in
        record {
          kept = kept_on v.kept (kept_on (kept_set b (place w) x (omega arith)) (kept_set (set b (place w) x) at y (omega (arith, v.few))));
          few = omega (arith, v.few);
          numbers =
              ap (λ (k : ℕ). take k (set (set b (place w) x) at y)) (add-one at)
              ∙ take-suc-set (set b (place w) x) at y wide
              ∙ ap (λ (m : List ℕ). m ++ y ∷ []) (take-set-le at b (place w) x (omega (arith, v.few)) ∙ v.numbers)
              ∙ more;
          ahead = λ j h k.
              get_or-set_other (set b (place w) x) at j y 0 (λ e. omega (arith, v.few))
              ∙ get_or-set_other b (place w) j x 0 (λ e. omega arith)
              ∙ v.ahead j (omega arith) k;
          entries = λ p h.
              get_or-set_other (set b (place w) x) at (2048 + p) y 0 (λ e. omega (arith, v.few))
              ∙ entries_next (entered_by pass) a b i room (omega arith) v.kept.size v.entries w q p h;
        }

    pub sifted-next : {c : List ℕ} {r : ℕ} → Moved pass b c i at r → Sifted pass a c (i + 1) r
    sifted-next {c} {r} m = by_cases (gone_by pass (get_or b i 0) (entry b (pair_of (get_or b i 0)))) refl m.numbers m.next
      where
        by_cases : (g : Bool) → gone_by pass (get_or b i 0) (entry b (pair_of (get_or b i 0))) ≡ g
            → c ≡ cond g (entered_at pass b (get_or b i 0)) (set (entered_at pass b (get_or b i 0)) at (shown_by pass (get_or b i 0)))
            → r ≡ cond g at (at + 1) → Sifted pass a c (i + 1) r
        by_cases true g e k =
            subst (λ (y : ℕ). Sifted pass a c (i + 1) y) (sym k)
            (subst (λ (x : List ℕ). Sifted pass a x (i + 1) at) (sym e) (goes (get_or b i 0) (v.ahead i (omega arith) low) g))
        by_cases false g e k =
            subst (λ (y : ℕ). Sifted pass a c (i + 1) y) (sym k)
            (subst (λ (x : List ℕ). Sifted pass a x (i + 1) (at + 1)) (sym e) (moves (get_or b i 0) (v.ahead i (omega arith) low) g))
