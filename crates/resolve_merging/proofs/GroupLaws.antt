-- The groups of a run of effects, one effect after the other.
-- Assumes nothing.
use Prim.Native.Nat.{ℕ, ◌+◌, ◌*◌, ◌%◌, ◌≤◌, ◌<◌}
use native.Mathlib.Omega.{arith}
use mathlib.Core.Path.{◌≡◌, refl, sym, ◌∙◌, ap, ap₂, subst, fun_ext}
use mathlib.Core.Bool.{Bool, true, false, cond, ◌&&◌}
use mathlib.Core.List.{List, [], ◌∷◌, ◌++◌, map, append_assoc}
use borrow.Author.Tests.{eq-eqb, ne_eqb, eqb-true, eqb-false, le-leb, lt-leb}
use lib.Dec.{eqb}
use lib.ListN.{length, take, drop, get_or, set, length-set, length-append, get_or-append, take-append-drop}
use lib.Seq.{get_or-append_seam, set-get_or, get_or-set_same, get_or-set_other, take-set-le, take-take, get_or-take, length-take-le}
use Rattle.text.specs.Lists.{any, firsts}
use Rattle.text.proofs.Appended.{map-append, firsts-one_more}
use Rattle.resolve_merging.specs.Packing.{pair_of, group_number}
use Rattle.resolve_merging.specs.Flags.{flagged, with_flag}
use Rattle.resolve_merging.specs.Runs.{groups_in}
use Rattle.resolve_merging.specs.Tables.{place, entry, tally, Agree, zeros, Kept}
use Rattle.resolve_merging.specs.Outcomes.{group_at}
use Rattle.resolve_merging.specs.Grouping.{grouping, is_there, flagged_at, GroupedOne, GroupNumbers, listed_as, Listed}
use Rattle.resolve_merging.proofs.Mapped.{append-none, any-map}
use Rattle.resolve_merging.proofs.Fields.{other_way, group_eqb}
use Rattle.resolve_merging.proofs.TableLaws.{kept_self, kept_on, kept_set, pair_below, take_more, get_d_front, entries_next, tally_at}
use Rattle.resolve_merging.proofs.PassLaws.{flags_told}
use Rattle.resolve_merging.proofs.ForcedLaws.{agree_at}

-- a group that was seen has its flag
group-told :
    (t : ℕ → ℕ) (l : List ℕ) (e : ℕ) → t (pair_of e) ≡ 0
    → flagged (tally grouping t l (pair_of e)) (e % 4) ≡ any (λ g. eqb g (group_number e)) (map group_number l)
group-told t l e z =
    ap (λ (v : ℕ). flagged v (e % 4)) (tally_at grouping t zeros (pair_of e) z l)
    ∙ flags_told (λ u. true) (λ u. u % 4) (pair_of e) (e % 4) l
    ∙ ap
    (λ (p : ℕ → Bool). any p l)
    (fun_ext (λ u. ap (λ (b : Bool). eqb (pair_of u) (pair_of e) && b) (other_way (e % 4) (u % 4)) ∙ group_eqb u e))
    ∙ sym (any-map group_number (λ g. eqb g (group_number e)) l)

groups-more :
    (l : List ℕ) (e : ℕ) → groups_in (l ++ e ∷ []) ≡ groups_in l ++ cond (any (λ g. eqb g (group_number e)) (map group_number l)) [] (group_number e ∷ [])
groups-more l e = ap (firsts eqb) (map-append group_number l (e ∷ [])) ∙ firsts-one_more eqb (map group_number l) (group_number e)

-- more effects have no fewer groups
pub groups_grow : (l m : List ℕ) → length (groups_in l) ≤ length (groups_in (l ++ m))
groups_grow l [] = omega (arith, ap (λ (k : List ℕ). length (groups_in k)) (append-none l))
groups_grow l (e ∷ m) =
    omega (
      arith,
      ap length (groups-more l e),
      length-append (groups_in l) (cond (any (λ g. eqb g (group_number e)) (map group_number l)) [] (group_number e ∷ [])),
      groups_grow (l ++ e ∷ []) m,
      ap (λ (k : List ℕ). length (groups_in k)) (append_assoc l (e ∷ []) m),
    )

-- The loop: the groups of the effects so far stand from 6,144 on.
pub record Listing (a b : List ℕ) (i k : ℕ) : Type 0 where
  pub kept : Kept a b
  pub terms : take 2048 b ≡ take 2048 a
  pub entries : (p : ℕ) → p < 4096 → entry b p ≡ tally grouping (entry a) (take i a) p
  pub few : k ≤ 256
  pub numbers : GroupNumbers (groups_in (take i a)) b k

pub listing_start : (a : List ℕ) → Listing a a 0 0
listing_start a = record {
  kept = kept_self a;
  terms = refl;
  entries = λ p h. refl;
  few = omega arith;
  numbers = record { count = refl; each = λ j h. absurd (omega arith) };
}

flag_there : (v k : ℕ) → flagged v k ≡ true → with_flag v k ≡ v
flag_there v k f = rw f

-- one effect: its group is there, or is written, or there is no room for it
module _ {a b : List ℕ} {i m k : ℕ} (room : 6656 ≤ length a) (most : m ≤ 2048) (so : i < m) (z : Agree (take m a) (entry a) zeros)
    (v : Listing a b i k) where
  own : get_or b i 0 ≡ get_or a i 0
  own = get_d_front a b i (omega arith) v.terms

  before : entry a (pair_of (get_or a i 0)) ≡ 0
  before =
      let h : i < length (take m a) = omega (arith, length-take-le m a (omega arith)) in
      let e : get_or (take m a) i 0 ≡ get_or a i 0 = get_or-take m a i 0 so in
      rw e at (agree_at (entry a) zeros (take m a) i h z)

  there : is_there b (get_or b i 0) ≡ any (λ g. eqb g (group_number (get_or b i 0))) (map group_number (take i a))
  there =
      ap (λ (x : ℕ). flagged x (get_or b i 0 % 4)) (v.entries (pair_of (get_or b i 0)) (pair_below (get_or b i 0)))
      ∙ group-told (entry a) (take i a) (get_or b i 0) (ap (λ (w : ℕ). entry a (pair_of w)) own ∙ before)

  grown : groups_in (take (i + 1) a) ≡ groups_in (take i a) ++ cond (is_there b (get_or b i 0)) [] (group_number (get_or b i 0) ∷ [])
  grown =
      ap groups_in (take_more a i (omega arith) ∙ ap (λ (w : ℕ). take i a ++ w ∷ []) (sym own))
      ∙ groups-more (take i a) (get_or b i 0)
      ∙ ap (λ (t : Bool). groups_in (take i a) ++ cond t [] (group_number (get_or b i 0) ∷ [])) (sym there)

  flags_next :
      (p : ℕ) → p < 4096
      → entry (flagged_at b (get_or b i 0)) p ≡ tally grouping (entry a) (take (i + 1) a) p
  flags_next = entries_next grouping a b i room (omega arith) v.kept.size v.entries (get_or b i 0) own

  group_seen : is_there b (get_or b i 0) ≡ true → Listing a b (i + 1) k
  group_seen t = record {
    kept = v.kept;
    terms = v.terms;
    entries = λ p h.
        ap
        (λ (l : List ℕ). entry l p)
        (sym
        (ap (set b (place (get_or b i 0))) (flag_there (entry b (pair_of (get_or b i 0))) (get_or b i 0 % 4) t)
        ∙ set-get_or b (place (get_or b i 0)) 0))
        ∙ flags_next p h;
    few = v.few;
    numbers =
        subst (λ (gs : List ℕ). GroupNumbers gs b k)
        (sym (append-none (groups_in (take i a))) ∙ sym (rw t at grown))
        v.numbers;
  }

  group_new :
      is_there b (get_or b i 0) ≡ false → k < 256
      → Listing a (set (flagged_at b (get_or b i 0)) (6144 + 2 * k) (group_number (get_or b i 0))) (i + 1) (k + 1)
  group_new t low =
      let e = get_or b i 0 in
      let x = grouping e (entry b (pair_of e)) in
      let c = set b (place e) x in
      let g = group_number e in
      let gs = groups_in (take i a) in
      record {
        kept = kept_on v.kept (kept_on (kept_set b (place e) x (omega arith)) (kept_set c (6144 + 2 * k) g (omega arith)));
        terms = take-set-le 2048 c (6144 + 2 * k) g (omega arith) ∙ take-set-le 2048 b (place e) x (omega arith) ∙ v.terms;
        entries = λ p h. get_or-set_other c (6144 + 2 * k) (2048 + p) g 0 (λ q. omega arith) ∙ flags_next p h;
        few = omega arith;
        numbers =
            subst (λ (hs : List ℕ). GroupNumbers hs (set c (6144 + 2 * k) g) (k + 1)) (sym (rw t at grown)) record {
              count = omega (arith, v.numbers.count, length-append gs (g ∷ []));
              each = λ j h. by_cases j h (eqb j k) refl;
            };
      }
    where
      by_cases :
          (j : ℕ) → j < k + 1 → (s : Bool) → eqb j k ≡ s
          → group_at (set (flagged_at b (get_or b i 0)) (6144 + 2 * k) (group_number (get_or b i 0))) j
          ≡ get_or (groups_in (take i a) ++ group_number (get_or b i 0) ∷ []) j 0
      by_cases j h true q =
          let e = get_or b i 0 in
          let x = grouping e (entry b (pair_of e)) in
          let gs = groups_in (take i a) in
          let d : j ≡ k = eqb-true j k q in
          let wide : 6144 + 2 * k < length (set b (place e) x) = omega (arith, length-set b (place e) x, v.kept.size) in
          ap (λ (n : ℕ). group_at (set (set b (place e) x) (6144 + 2 * k) (group_number e)) n) d
          ∙ get_or-set_same (set b (place e) x) (6144 + 2 * k) (group_number e) 0 wide
          ∙ sym (ap (λ (n : ℕ). get_or (gs ++ group_number e ∷ []) n 0) (d ∙ v.numbers.count) ∙ get_or-append_seam gs (group_number e) [] 0)
      by_cases j h false q =
          let e = get_or b i 0 in
          let x = grouping e (entry b (pair_of e)) in
          let gs = groups_in (take i a) in
          let d : j ≡ k → ⊥ = eqb-false j k q in
          let l : j < k = omega (arith, d, h) in
          get_or-set_other (set b (place e) x) (6144 + 2 * k) (6144 + 2 * j) (group_number e) 0 (λ r. omega (arith, l))
          ∙ get_or-set_other b (place e) (6144 + 2 * j) x 0 (λ r. omega arith)
          ∙ v.numbers.each j l
          ∙ sym (get_or-append gs (group_number e ∷ []) 0 j (omega (arith, l, v.numbers.count)))

  -- the next loop state, if the count is not over 256; else there are too many
  pub listing_next : {c : List ℕ} {r : ℕ} → GroupedOne b c i k r → r ≤ 256 → Listing a c (i + 1) r
  listing_next {c} {r} w low = by_cases (is_there b (get_or b i 0)) refl w.count w.numbers
    where
      by_cases :
          (t : Bool) → is_there b (get_or b i 0) ≡ t → r ≡ cond t k (k + 1)
          → c ≡ cond t b
          (cond (eqb k 256) (flagged_at b (get_or b i 0)) (set (flagged_at b (get_or b i 0)) (6144 + 2 * k) (group_number (get_or b i 0))))
          → Listing a c (i + 1) r
      by_cases true t d e =
          subst (λ (n : ℕ). Listing a c (i + 1) n) (sym d) (subst (λ (l : List ℕ). Listing a l (i + 1) k) (sym e) (group_seen t))
      by_cases false t d e =
          let l : k < 256 = omega (arith, d, low) in
          let f : eqb k 256 ≡ false = ne_eqb k 256 (λ q. omega (arith, q, l)) in
          subst (λ (n : ℕ). Listing a c (i + 1) n) (sym d)
          (subst (λ (l : List ℕ). Listing a l (i + 1) (k + 1)) (sym (rw f at e)) (group_new t l))

  pub listing_kept : {c : List ℕ} {r : ℕ} → GroupedOne b c i k r → Kept a c × (take 2048 c ≡ take 2048 a)
  listing_kept {c} {r} w =
      subst (λ (l : List ℕ). Kept a l × (take 2048 l ≡ take 2048 a)) (sym w.numbers)
      (by_cases (is_there b (get_or b i 0)) (eqb k 256) refl)
    where
      by_cases :
          (t s : Bool) → eqb k 256 ≡ s
          → let l = cond t b (cond s (flagged_at b (get_or b i 0)) (set (flagged_at b (get_or b i 0)) (6144 + 2 * k) (group_number (get_or b i 0)))) in
          Kept a l × (take 2048 l ≡ take 2048 a)
      by_cases true s q = (v.kept, v.terms)
      by_cases false true q =
          let e = get_or b i 0 in
          let x = grouping e (entry b (pair_of e)) in
          (kept_on v.kept (kept_set b (place e) x (omega arith)), take-set-le 2048 b (place e) x (omega arith) ∙ v.terms)
      by_cases false false q =
          let e = get_or b i 0 in
          let x = grouping e (entry b (pair_of e)) in
          let c = set b (place e) x in
          let g = group_number e in
          let d : k ≡ 256 → ⊥ = eqb-false k 256 q in (
            kept_on v.kept (kept_on (kept_set b (place e) x (omega arith)) (kept_set c (6144 + 2 * k) g (omega (arith, d, v.few)))),
            take-set-le 2048 c (6144 + 2 * k) g (omega arith) ∙ take-set-le 2048 b (place e) x (omega arith) ∙ v.terms,
          )

  pub listing_many : {c : List ℕ} {r : ℕ} → GroupedOne b c i k r → 256 < r → 256 < length (groups_in (take m a))
  listing_many {c} {r} w high = by_cases (is_there b (get_or b i 0)) refl w.count
    where
      by_cases : (t : Bool) → is_there b (get_or b i 0) ≡ t → r ≡ cond t k (k + 1) → 256 < length (groups_in (take m a))
      by_cases true t d = absurd (omega (arith, d, high, v.few))
      by_cases false t d =
          omega (
            arith,
            d,
            high,
            v.numbers.count,
            ap length (rw t at grown),
            length-append (groups_in (take i a)) (group_number (get_or b i 0) ∷ []),
            groups_grow (take (i + 1) (take m a)) (drop (i + 1) (take m a)),
            ap (λ (l : List ℕ). length (groups_in l)) (take-append-drop (i + 1) (take m a)),
            ap (λ (l : List ℕ). length (groups_in l)) (take-take (i + 1) m a (omega arith)),
          )

pub listing_end : {a b : List ℕ} {i m k : ℕ} → i ≡ m → Listing a b i k → Listed (take m a) a b k
listing_end {a} {b} {i} {m} {k} e v = record {
  kept = v.kept;
  terms = v.terms;
  answer =
      subst (λ (t : Bool). listed_as t (groups_in (take m a)) b k) (sym (le-leb k 256 v.few))
      (subst (λ (n : ℕ). GroupNumbers (groups_in (take n a)) b k) e v.numbers);
}

pub listing_full :
    {a b c : List ℕ} {i m k r : ℕ} → 6656 ≤ length a → m ≤ 2048 → i < m → Agree (take m a) (entry a) zeros → Listing a b i k
    → GroupedOne b c i k r → 256 < r → Listed (take m a) a c r
listing_full {a} {b} {c} {i} {m} {k} {r} room most so z v w high =
    let h = listing_kept room most so z v w in
    record {
      kept = h.0;
      terms = h.1;
      answer =
          subst (λ (t : Bool). listed_as t (groups_in (take m a)) c r) (sym (lt-leb r 256 high)) (listing_many room most so z v w high);
    }

-- one effect as code has it: the place of its pair, and the number there
module _ (a : List ℕ) (i k : ℕ) {p : ℕ} (q : p ≡ place (get_or a i 0)) where
  same_test : {t : Bool} → flagged (get_or a p 0) (get_or a i 0 % 4) ≡ t → is_there a (get_or a i 0) ≡ t
  same_test f = ap (λ (j : ℕ). flagged (get_or a j 0) (get_or a i 0 % 4)) (sym q) ∙ f

  pub one_seen : flagged (get_or a p 0) (get_or a i 0 % 4) ≡ true → GroupedOne a a i k k
  one_seen f = let t : is_there a (get_or a i 0) ≡ true = same_test f in record { count = rw t; numbers = rw t }

  module _ {x : ℕ} (f : flagged (get_or a p 0) (get_or a i 0 % 4) ≡ false) (e : x ≡ with_flag (get_or a p 0) (get_or a i 0 % 4)) where
    flag-put-in : set a p x ≡ flagged_at a (get_or a i 0)
    flag-put-in = ap₂ (set a) q (e ∙ ap (λ (j : ℕ). with_flag (get_or a j 0) (get_or a i 0 % 4)) q)

    -- the buffer by its two tests
    abbrev byTests : Bool → Bool → List ℕ
    byTests u v =
        cond u a (cond v (flagged_at a (get_or a i 0)) (set (flagged_at a (get_or a i 0)) (6144 + 2 * k) (group_number (get_or a i 0))))

    pub one-over : k ≡ 256 → GroupedOne a (set a p x) i k (k + 1)
    one-over h =
        let t : is_there a (get_or a i 0) ≡ false = same_test f in
        record { count = rw t; numbers = flag-put-in ∙ sym (ap₂ byTests t (eq-eqb k 256 h)) }

    pub one_written : {g : ℕ} → (k ≡ 256 → ⊥) → g ≡ group_number (get_or a i 0) → GroupedOne a (set (set a p x) (6144 + 2 * k) g) i k (k + 1)
    one_written h d =
        let t : is_there a (get_or a i 0) ≡ false = same_test f in
        record {
          count = rw t;
          numbers = ap₂ (λ (l : List ℕ) (y : ℕ). set l (6144 + 2 * k) y) flag-put-in d ∙ sym (ap₂ byTests t (ne_eqb k 256 h));
        }
