-- Lists of pairs in a run of numbers, from the first on: their lengths, their entries, and what an entry that is a name says of the run.
-- Assumes nothing.
use mathlib.Core.Path.{◌≡◌, refl, ◌∙◌, ap}
use mathlib.Core.Bool.{Bool, true, false, ◌&&◌}
use mathlib.Core.List.{List, [], ◌∷◌, map}
use Prim.Native.Nat.{ℕ, zero, suc, ◌+◌, ◌*◌, ◌-◌, ◌<◌, ◌≤◌}
use native.Mathlib.Nat.{add-zero, mul-suc, mul-zero}
use native.Mathlib.Omega.{arith}
use borrow.Author.Tests.{leb-true, leb-false}
use lib.Dec.{leb}
use lib.ListN.{length, get_or, length-map, get_or-eq_default}
use Rattle.text.proofs.Tests.{halves}
use Rattle.tokens.specs.Spelling.{is_name}
use Rattle.text.specs.Lists.{all, gather}
use Rattle.resolving.specs.Given.{Pair, is_entry, in_order, both_pairs, spelled}
use Rattle.resolving.specs.Handed.{pair_at, pairs_at, bindings_at, declared_at}
use Rattle.resolve_context.specs.Lists.{names_in, kinds_in, Sound}
use Rattle.resolve_context.specs.declared.Names.{Names}

module _ (l : List ℕ) where
  pub pairs_more : (i step n : ℕ) → 0 < n → pairs_at l i step n ≡ pair_at l i ∷ pairs_at l (i + step) step (n - 1)
  unfolding pairs_at
  pairs_more i step zero h = absurd (omega arith)
  pairs_more i step (suc n) h = let e : suc n - 1 ≡ n = omega arith in rw e

  pub pairs_none : (i step n : ℕ) → n ≤ 0 → pairs_at l i step n ≡ []
  unfolding pairs_at
  pairs_none i step zero h = refl
  pairs_none i step (suc n) h = absurd (omega arith)

  -- the kinds from an index on
  abbrev pub kinds_at : ℕ → ℕ → List ℕ
  kinds_at i n = map (λ d. d.kind) (declared_at l i n)

  pub kinds-more : (i n : ℕ) → 0 < n → kinds_at i n ≡ get_or l (i + 2) 0 ∷ kinds_at (i + 3) (n - 1)
  unfolding declared_at
  kinds-more i zero h = absurd (omega arith)
  kinds-more i (suc n) h = let e : suc n - 1 ≡ n = omega arith in rw e

  pub kinds-none : (i n : ℕ) → n ≤ 0 → kinds_at i n ≡ []
  unfolding declared_at
  kinds-none i zero h = refl
  kinds-none i (suc n) h = absurd (omega arith)

  -- the names of declared covariates, and the pairs of a template
  pub declared_pairs : (i n : ℕ) → map (λ d. d.name) (declared_at l i n) ≡ pairs_at l i 3 n
  unfolding declared_at pairs_at
  declared_pairs i zero = refl
  declared_pairs i (suc n) = ap (λ (ps : List Pair). pair_at l i ∷ ps) (declared_pairs (i + 3) n)

  pub binding_pairs : (i n : ℕ) → gather both_pairs (bindings_at l i n) ≡ pairs_at l i 2 (2 * n)
  unfolding bindings_at pairs_at
  binding_pairs i zero = refl
  binding_pairs i (suc n) =
      let e : 2 * suc n ≡ suc (suc (2 * n)) = omega arith in
      let k : i + 2 + 2 ≡ i + 4 = omega arith in
      rw (e, k) (ap (λ (ps : List Pair). pair_at l i ∷ pair_at l (i + 2) ∷ ps) (binding_pairs (i + 4) n))

  pub length_pairs : (i step n : ℕ) → length (pairs_at l i step n) ≡ n
  unfolding pairs_at
  length_pairs i step zero = refl
  length_pairs i step (suc n) = ap suc (length_pairs (i + step) step n)

  pub length-bindings : (i n : ℕ) → length (bindings_at l i n) ≡ n
  unfolding bindings_at
  length-bindings i zero = refl
  length-bindings i (suc n) = ap suc (length-bindings (i + 4) n)

  pub length_declared : (i n : ℕ) → length (declared_at l i n) ≡ n
  unfolding declared_at
  length_declared i zero = refl
  length_declared i (suc n) = ap suc (length_declared (i + 3) n)

  pub kind_at : (i n k : ℕ) → k < n → get_or (kinds_at i n) k 0 ≡ get_or l (i + 3 * k + 2) 0
  unfolding declared_at
  kind_at i zero k h = absurd (omega arith)
  kind_at i (suc n) zero h = let e : i + 3 * 0 + 2 ≡ i + 2 = omega arith in rw e
  kind_at i (suc n) (suc k) h =
      let e : i + 3 * suc k + 2 ≡ i + 3 + 3 * k + 2 = omega arith in
      rw e (kind_at (i + 3) n k (omega arith))

module _ (b l : List ℕ) where
  pub spelled_at : (i step n k : ℕ) → k < n → get_or (map (spelled b) (pairs_at l i step n)) k [] ≡ spelled b (pair_at l (i + step * k))
  unfolding pairs_at
  spelled_at i step zero k h = absurd (omega arith)
  spelled_at i step (suc n) zero h = rw (mul-zero step, add-zero i)
  spelled_at i step (suc n) (suc k) h =
      let e : i + step * suc k ≡ i + step + step * k = omega (arith, mul-suc step k) in
      rw e (spelled_at (i + step) step n k (omega arith))

  pub names-length : (n : Names) → length (names_in b l n) ≡ n.count
  unfolding names_in
  names-length n = length-map (pairs_at l n.start n.step n.count) (spelled b) ∙ length_pairs l n.start n.step n.count

  -- one entry of a list in order, and the others
  module _ (i step n end : ℕ) (h : 0 < n) where
    abbrev others : Bool
    others = in_order b (get_or l i 0 + get_or l (i + 1) 0) (pairs_at l (i + step) step (n - 1))

    pub order-more : in_order b end (pairs_at l i step n) ≡ (is_entry b (pair_at l i) && (leb end (get_or l i 0) && others))
    order-more = rw (pairs_more l i step n h)

  pub entry_at : (i step n k : ℕ) → all (is_entry b) (pairs_at l i step n) ≡ true → k < n → is_entry b (pair_at l (i + step * k)) ≡ true
  unfolding pairs_at
  entry_at i step zero k h d = absurd (omega arith)
  entry_at i step (suc n) zero h d = rw (mul-zero step, add-zero i) (halves _ _ h).0
  entry_at i step (suc n) (suc k) h d =
      let e : i + step * suc k ≡ i + step + step * k = omega (arith, mul-suc step k) in
      rw e (entry_at (i + step) step n k (halves (is_entry b (pair_at l i)) _ h).1 (omega arith))

-- What is known of an entry that is a name. It lies in the run, since what lies behind the run is taken as 0, and no name is empty.
pub record Within (b l : List ℕ) (i : ℕ) : Type 0 where
  pub inside : i + 1 < length l
  pub some : 1 ≤ get_or l (i + 1) 0
  pub few : get_or l (i + 1) 0 ≤ 32
  pub ends : get_or l i 0 + get_or l (i + 1) 0 ≤ length b
  pub named : is_name (spelled b (pair_at l i)) ≡ true

pub within : (b l : List ℕ) (i : ℕ) → is_entry b (pair_at l i) ≡ true → Within b l i
within b l i h =
    let p = halves (leb 1 (get_or l (i + 1) 0)) (leb (get_or l (i + 1) 0) 32 && (ended && spelt)) h in
    let q = halves (leb (get_or l (i + 1) 0) 32) (ended && spelt) p.1 in
    let r = halves ended spelt q.1 in
    let one = leb-true 1 _ p.0 in
    record {
      inside = in_run (leb (length l) (i + 1)) refl one;
      some = one;
      few = leb-true _ 32 q.0;
      ends = leb-true _ _ r.0;
      named = r.1;
    }
  where
    ended : Bool
    ended = leb (get_or l i 0 + get_or l (i + 1) 0) (length b)

    spelt : Bool
    spelt = is_name (spelled b (pair_at l i))

    in_run : (t : Bool) → leb (length l) (i + 1) ≡ t → 1 ≤ get_or l (i + 1) 0 → i + 1 < length l
    in_run true e m = absurd (omega (arith, get_or-eq_default l 0 (leb-true (length l) (i + 1) e)))
    in_run false e m = leb-false (length l) (i + 1) e

-- an entry of a list that was checked, and its name
module _ (b l : List ℕ) (n : Names) (s : Sound b l n) (k : ℕ) (h : k < n.count) where
  pub sound_at : Within b l (n.start + n.step * k)
  sound_at = within b l (n.start + n.step * k) (entry_at b l n.start n.step n.count k s.named h)

pub name-is : (b l : List ℕ) (n : Names) (k : ℕ) → k < n.count → get_or (names_in b l n) k [] ≡ spelled b (pair_at l (n.start + n.step * k))
unfolding names_in
name-is b l n k h = spelled_at b l n.start n.step n.count k h

pub kind-is : (l : List ℕ) (n : Names) (k : ℕ) → k < n.count → get_or (kinds_in l n) k 0 ≡ get_or l (n.start + 3 * k + 2) 0
unfolding kinds_in
kind-is l n k h = kind_at l n.start n.count k h
