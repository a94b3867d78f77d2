-- A pair that is forced again, term by term: as long as none is, a pair's number is the lowest statement that forces it, counted from 1.
-- Assumes nothing.
use Prim.Native.Nat.{ℕ, zero, suc, ◌+◌, ◌/◌, ◌%◌, ◌≤◌, ◌<◌}
use native.Mathlib.Omega.{arith}
use mathlib.Core.Path.{◌≡◌, refl, sym, ◌∙◌, ap, ap₂, subst, fun_ext}
use mathlib.Core.Bool.{Bool, true, false, cond, not, ◌&&◌, ◌||◌, true≢false}
use mathlib.Core.List.{List, [], ◌∷◌, ◌++◌, map}
use mathlib.Core.Option.{Option, some, none}
use borrow.Author.Tests.{eqb-true, leb-true, ltb-true, ltb-false, lt-leb, le-leb, ne_eqb}
use lib.Dec.{eqb, leb, ltb}
use lib.ListN.{length, take, get_or, set}
use lib.Seq.{slice, get_or-take, length-take-le}
use Rattle.text.specs.Lists.{any}
use Rattle.resolving.specs.Merging.{forces_with}
use Rattle.resolving_laws.specs.Flat.{Term, forced_before, forced_after}
use Rattle.text.proofs.Appended.{any_append}
use Rattle.text.proofs.Clashing.{any_never}
use Rattle.resolve_merging.specs.Packing.{effect_of, term_of, pair_of}
use Rattle.resolve_merging.specs.Runs.{forced_in}
use Rattle.resolve_merging.specs.Tables.{place, entry, tally, Tallied, Agree, zeros}
use Rattle.resolve_merging.specs.Passes.{forcing, forced_by}
use Rattle.resolve_merging.proofs.Mapped.{or_false}
use Rattle.resolve_merging.proofs.Scans.{slice_next, slice_past}
use Rattle.resolve_merging.proofs.Fields.{pair_eqb}
use Rattle.resolve_merging.proofs.TableLaws.{pair_below, take_more, get_d_front, tally-more, tallied-none, tallied-next}

-- terms, last first
abbrev onto : List ℕ → List Term → List Term
onto [] ts = ts
onto (w ∷ l) ts = onto l (term_of w ∷ ts)

onto_more : (l : List ℕ) (w : ℕ) (ts : List Term) → onto (l ++ w ∷ []) ts ≡ term_of w ∷ onto l ts
onto_more [] w ts = refl
onto_more (x ∷ l) w ts = onto_more l w (term_of x ∷ ts)

any_onto : (p : Term → Bool) (l : List ℕ) (ts : List Term) → any p (onto l ts) ≡ any (λ w. p (term_of w)) l || any p ts
any_onto p [] ts = refl
any_onto p (x ∷ l) ts = any_onto p l (term_of x ∷ ts) ∙ by_cases (any (λ w. p (term_of w)) l) (p (term_of x))
  where
    by_cases : (a b : Bool) → a || (b || any p ts) ≡ (b || a) || any p ts
    by_cases true true = refl
    by_cases true false = refl
    by_cases false true = refl
    by_cases false false = refl

-- a term of a statement before this one forces this pair
abbrev forces_before : ℕ → ℕ → ℕ → Bool
forces_before p s u = ltb (u / 262144) s && (eqb (u % 2) 0 && eqb (pair_of u) p)

before_scan :
    (l : List ℕ) (w : ℕ)
    → forced_before (onto l []) (term_of w) ≡ eqb (w % 2) 0 && any (forces_before (pair_of w) (w / 262144)) l
before_scan l w =
    any_onto (λ u. ltb u.statement (w / 262144) && forces_with u.effect (effect_of w)) l []
    ∙ or_false (any (λ u. ltb (u / 262144) (w / 262144) && forces_with (effect_of u) (effect_of w)) l)
    ∙ ap
    (λ (p : ℕ → Bool). any p l)
    (fun_ext (λ u. ap (λ (t : Bool). ltb (u / 262144) (w / 262144) && ((eqb (u % 2) 0 && eqb (w % 2) 0) && t)) (pair_eqb u w)))
    ∙ by_cases (eqb (w % 2) 0)
  where
    no_test : (a b c : Bool) → a && ((b && false) && c) ≡ false
    no_test true true c = refl
    no_test true false c = refl
    no_test false b c = refl

    one-test : (a b c : Bool) → a && ((b && true) && c) ≡ a && (b && c)
    one-test true true c = refl
    one-test true false c = refl
    one-test false b c = refl

    by_cases : (t : Bool)
        → any (λ u. ltb (u / 262144) (w / 262144) && ((eqb (u % 2) 0 && t) && eqb (pair_of u) (pair_of w))) l
        ≡ t && any (forces_before (pair_of w) (w / 262144)) l
    by_cases true =
        ap
        (λ (p : ℕ → Bool). any p l)
        (fun_ext (λ u. one-test (ltb (u / 262144) (w / 262144)) (eqb (u % 2) 0) (eqb (pair_of u) (pair_of w))))
    by_cases false =
        ap
        (λ (p : ℕ → Bool). any p l)
        (fun_ext (λ u. no_test (ltb (u / 262144) (w / 262144)) (eqb (u % 2) 0) (eqb (pair_of u) (pair_of w))))
        ∙ any_never l

-- what a pair's number tells, where it was 0 before the run
pub record Told (t : ℕ → ℕ) (l : List ℕ) : Type 0 where
  pub lowest :
      (p : ℕ) → t p ≡ 0
      → (s : ℕ) → any (forces_before p s) l ≡ not (eqb (tally forcing t l p) 0) && leb (tally forcing t l p) s

pub told_none : (t : ℕ → ℕ) → Told t []
told_none t = record { lowest = λ p z s. sym (ap (λ (v : ℕ). not (eqb v 0) && leb v s) z) }

-- where this statement is not behind the lowest, it is the lowest now
lowest_now :
    (v x s : ℕ) → not (eqb v 0) && leb v x ≡ false
    → (not (eqb v 0) && leb v s) || (ltb x s && true) ≡ not (eqb (x + 1) 0) && leb (x + 1) s
lowest_now v x s h = by_cases (ltb x s) refl (eqb v 0) refl (leb v s) refl
  where
    other : eqb (x + 1) 0 ≡ false
    other = ne_eqb (x + 1) 0 (λ q. omega arith)

    by_cases :
        (t : Bool) → ltb x s ≡ t → (z : Bool) → eqb v 0 ≡ z → (y : Bool) → leb v s ≡ y
        → (not z && y) || (t && true) ≡ not (eqb (x + 1) 0) && leb (x + 1) s
    by_cases true e z f y g =
        either (not z && y) ∙ sym (rw other (le-leb (x + 1) s (let l : x < s = ltb-true x s e in omega (arith, l))))
      where
        either : (b : Bool) → b || true ≡ true
        either true = refl
        either false = refl
    by_cases false e true f y g = sym (rw other (lt-leb (x + 1) s (let l : s ≤ x = ltb-false x s e in omega (arith, l))))
    by_cases false e false f true g =
        let l : s ≤ x = ltb-false x s e in
        let k : v ≤ s = leb-true v s g in
        absurd (true≢false (sym (ap₂ (λ (a b : Bool). not a && b) f (le-leb v x (omega (arith, l, k)))) ∙ h))
    by_cases false e false f false g = sym (rw other (lt-leb (x + 1) s (let l : s ≤ x = ltb-false x s e in omega (arith, l))))

pub told-next :
    {t : ℕ → ℕ} {l : List ℕ} (w : ℕ) → Told t l → forced_by w (tally forcing t l (pair_of w)) ≡ false → Told t (l ++ w ∷ [])
told-next {t} {l} w h f = record {
  lowest = λ p z s.
      any_append (forces_before p s) l (w ∷ [])
      ∙ ap₂ ◌||◌ (h.lowest p z s) (or_false (forces_before p s w))
      ∙ by_cases p s (eqb (pair_of w) p) refl (eqb (w % 2) 0) refl
      ∙ ap (λ (v : ℕ → ℕ). not (eqb (v p) 0) && leb (v p) s) (sym (tally-more forcing t l w));
}
  where
    and-false : (a b : Bool) → a && (b && false) ≡ false
    and-false true true = refl
    and-false true false = refl
    and-false false b = refl

    and_none : (a b : Bool) → a && (false && b) ≡ false
    and_none true b = refl
    and_none false b = refl

    by_cases :
        (p s : ℕ) (a : Bool) → eqb (pair_of w) p ≡ a → (b : Bool) → eqb (w % 2) 0 ≡ b
        → let v = tally forcing t l p in
        (not (eqb v 0) && leb v s) || (ltb (w / 262144) s && (b && a))
        ≡ not (eqb (cond a (cond b (w / 262144 + 1) v) v) 0) && leb (cond a (cond b (w / 262144 + 1) v) v) s
    by_cases p s true e true g =
        lowest_now (tally forcing t l p) (w / 262144) s
        (ap (λ (q : ℕ). not (eqb (tally forcing t l q) 0) && leb (tally forcing t l q) (w / 262144)) (sym (eqb-true (pair_of w) p e))
        ∙ sym (ap (λ (b : Bool). b && (not (eqb (tally forcing t l (pair_of w)) 0) && leb (tally forcing t l (pair_of w)) (w / 262144))) g)
        ∙ f)
    by_cases p s true e false g =
        ap
        (λ (b : Bool). (not (eqb (tally forcing t l p) 0) && leb (tally forcing t l p) s) || b)
        (and_none (ltb (w / 262144) s) true)
        ∙ or_false (not (eqb (tally forcing t l p) 0) && leb (tally forcing t l p) s)
    by_cases p s false e b g =
        ap
        (λ (b : Bool). (not (eqb (tally forcing t l p) 0) && leb (tally forcing t l p) s) || b)
        (and-false (ltb (w / 262144) s) b)
        ∙ or_false (not (eqb (tally forcing t l p) 0) && leb (tally forcing t l p) s)

-- what is found from an index on
abbrev pub forced_from : List ℕ → ℕ → ℕ → Option ℕ
forced_from a i n = forced_after (onto (take i a) []) (map term_of (slice i n a))

pub agree_at : (t s : ℕ → ℕ) (l : List ℕ) (i : ℕ) → i < length l → Agree l t s → t (pair_of (get_or l i 0)) ≡ s (pair_of (get_or l i 0))
agree_at t s [] i h g = absurd (omega arith)
agree_at t s (w ∷ l) zero h g = g.0
agree_at t s (w ∷ l) (suc i) h g = agree_at t s l i (omega arith) g.1

module _ (a : List ℕ) (i n : ℕ) where
  pub forced_start : forced_from a 0 n ≡ forced_in (take n a)
  forced_start = refl

  pub forced_step :
      (t : ℕ → ℕ) → Told t (take i a) → t (pair_of (get_or a i 0)) ≡ 0 → i < n → n ≤ length a
      → forced_from a i n
      ≡ cond (forced_by (get_or a i 0) (tally forcing t (take i a) (pair_of (get_or a i 0)))) (some (get_or a i 0 / 262144)) (forced_from a (i + 1) n)
  forced_step t h z g k =
      ap
      (λ (m : List ℕ). forced_after (onto (take i a) []) (map term_of m))
      (slice_next a i n g k)
      ∙ ap₂
      (λ (b : Bool) (o : Option ℕ). cond b (some (get_or a i 0 / 262144)) o)
      (before_scan (take i a) (get_or a i 0)
      ∙ ap (λ (b : Bool). eqb (get_or a i 0 % 2) 0 && b) (h.lowest (pair_of (get_or a i 0)) z (get_or a i 0 / 262144)))
      (ap
      (λ (ts : List Term). forced_after ts (map term_of (slice (i + 1) n a)))
      (sym (ap (λ (m : List ℕ). onto m []) (take_more a i (omega arith)) ∙ onto_more (take i a) (get_or a i 0) [])))

  pub forced_end : n ≤ i → forced_from a i n ≡ none
  forced_end h = ap (λ (m : List ℕ). forced_after (onto (take i a) []) (map term_of m)) (slice_past a i n h)

-- The loop: of the terms so far none forces a pair again.
pub record Looking (a b : List ℕ) (i n : ℕ) : Type 0 where
  pub tallied : Tallied forcing (take i a) a b
  pub told : Told (entry a) (take i a)
  pub rest : forced_from a i n ≡ forced_in (take n a)

pub looking_start : (a : List ℕ) (n : ℕ) → Looking a a 0 n
looking_start a n = record { tallied = tallied-none forcing a; told = told_none (entry a); rest = refl }

pub looking_end : {a b : List ℕ} {i n : ℕ} → n ≤ i → Looking a b i n → none ≡ forced_in (take n a)
looking_end {a} {b} {i} {n} h v = sym (forced_end a i n h) ∙ v.rest

-- one term: it forces a pair again, or further on one does
module _ {a b : List ℕ} {i n k : ℕ} (room : 6656 ≤ length a) (few : n ≤ 2048) (so : i < n) (z : Agree (take n a) (entry a) zeros)
    (v : Looking a b i n) (p : k ≡ place (get_or b i 0)) where
  own : get_or b i 0 ≡ get_or a i 0
  own = get_d_front a b i (omega arith) v.tallied.terms

  there : get_or b k 0 ≡ tally forcing (entry a) (take i a) (pair_of (get_or b i 0))
  there = ap (λ (j : ℕ). get_or b j 0) p ∙ v.tallied.entries (pair_of (get_or b i 0)) (pair_below (get_or b i 0))

  before : entry a (pair_of (get_or a i 0)) ≡ 0
  before =
      let h : i < length (take n a) = omega (arith, length-take-le n a (omega arith)) in
      let e : get_or (take n a) i 0 ≡ get_or a i 0 = get_or-take n a i 0 so in
      rw e at (agree_at (entry a) zeros (take n a) i h z)

  pub looking_test :
      cond (forced_by (get_or b i 0) (get_or b k 0)) (some (get_or b i 0 / 262144)) (forced_from a (i + 1) n) ≡ forced_in (take n a)
  looking_test =
      ap
      (λ (x : ℕ). cond (forced_by (get_or b i 0) x) (some (get_or b i 0 / 262144)) (forced_from a (i + 1) n))
      there
      ∙ ap
      (λ (w : ℕ). cond (forced_by w (tally forcing (entry a) (take i a) (pair_of w))) (some (w / 262144)) (forced_from a (i + 1) n))
      own
      ∙ sym (forced_step a i n (entry a) v.told before so (omega arith))
      ∙ v.rest

  pub looking_next :
      {x : ℕ} → forced_by (get_or b i 0) (get_or b k 0) ≡ false → x ≡ forcing (get_or b i 0) (get_or b k 0) → Looking a (set b k x) (i + 1) n
  looking_next {x} f e = record {
    tallied =
        tallied-next forcing i room (omega arith) v.tallied (get_or b i 0) refl
        (ap₂ (set b) p (e ∙ ap (λ (j : ℕ). forcing (get_or b i 0) (get_or b j 0)) p));
    told =
        subst (Told (entry a))
        (ap (λ (w : ℕ). take i a ++ w ∷ []) own ∙ sym (take_more a i (omega arith)))
        (told-next (get_or b i 0) v.told (ap (forced_by (get_or b i 0)) (sym there) ∙ f));
    rest =
        ap (λ (t : Bool). cond t (some (get_or b i 0 / 262144)) (forced_from a (i + 1) n)) (sym f) ∙ looking_test;
  }
