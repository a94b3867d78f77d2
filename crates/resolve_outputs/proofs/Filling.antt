-- A buffer that is filled from its start on, one entry after the other: what the loops that do so keep, one entry more, and the end.
-- Assumes nothing.
use Prim.Native.Nat.{ℕ, zero, suc, ◌+◌, ◌<◌, ◌≤◌}
use native.Mathlib.Omega.{arith}
use native.Mathlib.Numerals.{add-one}
use mathlib.Core.Path.{◌≡◌, refl, ◌∙◌, ap, sym}
use mathlib.Core.List.{List, [], ◌∷◌, ◌++◌, map}
use Rattle.std.proofs.lemmas.List.{map-id}
use lib.ListN.{length, take, drop, get_or, set}

-- of `count` entries that a loop puts over the first of `before`, f of each of a run, the first `i` are there by now
pub record Filled {A B : Type 0} (f : A → B) (run : List A) (before : List B) (count i : ℕ) (now : List B) : Type 0 where
  pub room : count ≤ length before
  pub given : count ≤ length run
  pub within : i ≤ count
  pub entries : now ≡ map f (take i run) ++ drop i before

-- none yet
pub none_filled : {A B : Type 0} {f : A → B} {run : List A} {before : List B} {count : ℕ}
    → count ≤ length before
    → count ≤ length run
    → Filled f run before count 0 before
none_filled h k = record { room = h; given = k; within = omega arith; entries = refl }

module _ {A B : Type 0} (f : A → B) where
  entry_set : (d : A) (run : List A) (before : List B) (i : ℕ) → i < length run → i < length before
      → set (map f (take i run) ++ drop i before) i (f (get_or run i d)) ≡ map f (take (suc i) run) ++ drop (suc i) before
  entry_set d [] before i h k = absurd (omega arith)
  entry_set d (s ∷ run) [] i h k = absurd (omega arith)
  entry_set d (s ∷ run) (x ∷ before) zero h k = refl
  entry_set d (s ∷ run) (x ∷ before) (suc i) h k = ap (λ (l : List B). f s ∷ l) (entry_set d run before i (omega arith) (omega arith))

  entries-length : (run : List A) (before : List B) (i : ℕ) → i ≤ length run → i ≤ length before
      → length (map f (take i run) ++ drop i before) ≡ length before
  entries-length run before zero h k = refl
  entries-length [] before (suc i) h k = absurd (omega arith)
  entries-length (s ∷ run) [] (suc i) h k = absurd (omega arith)
  entries-length (s ∷ run) (x ∷ before) (suc i) h k = ap suc (entries-length run before i (omega arith) (omega arith))

module _ {A B : Type 0} {f : A → B} {run : List A} {before : List B} {count i : ℕ} {now : List B} (g : Filled f run before count i now) where
  -- the buffer keeps its length
  pub filled_length : length now ≡ length before
  filled_length = ap length g.entries ∙ entries-length f run before i (omega arith) (omega arith)

  -- so the next entry lies in it
  pub filled_inside : i < count → i < length now
  filled_inside h = omega (arith, filled_length)

  -- one entry more, whatever stands for one that is not there
  pub filled_next : {y : B} (d : A) → i < count → y ≡ f (get_or run i d) → Filled f run before count (i + 1) (set now i y)
  filled_next {y} d h e = record {
    room = g.room;
    given = g.given;
    within = omega arith;
    entries =
        ap (λ (l : List B). set l i y) g.entries
        ∙ ap (λ (x : B). set (map f (take i run) ++ drop i before) i x) e
        ∙ entry_set f d run before i (omega arith) (omega arith)
        ∙ ap (λ (n : ℕ). map f (take n run) ++ drop n before) (sym (add-one i));
  }

  -- all of them
  pub filled_all : count ≤ i → now ≡ map f (take count run) ++ drop count before
  filled_all h =
      let end : i ≡ count = omega arith in
      g.entries ∙ ap (λ (n : ℕ). map f (take n run) ++ drop n before) end

-- all of a run that is put as it is
pub copied_all : {A : Type 0} {run before now : List A} {count i : ℕ}
    → Filled (λ x. x) run before count i now
    → count ≤ i
    → now ≡ take count run ++ drop count before
copied_all {A} {run} {before} {count = count} g h = filled_all g h ∙ ap (λ (l : List A). l ++ drop count before) (map-id (take count run))

-- one entry behind those that were filled
behind : {B : Type 0} (xs before : List B) (y : B)
    → length xs < length before
    → set (xs ++ drop (length xs) before) (length xs) y ≡ (xs ++ y ∷ []) ++ drop (suc (length xs)) before
behind [] [] y h = absurd (omega arith)
behind [] (b ∷ before) y h = refl
behind (x ∷ xs) [] y h = absurd (omega arith)
behind {B} (x ∷ xs) (b ∷ before) y h = ap (λ (l : List B). x ∷ l) (behind xs before y (omega arith))

pub one-behind : {B : Type 0} {now : List B} (xs before : List B) (y : B) (n : ℕ)
    → length xs ≡ n
    → n < length before
    → now ≡ xs ++ drop n before
    → set now n y ≡ (xs ++ y ∷ []) ++ drop (n + 1) before
one-behind {B} xs before y n e h f =
    ap (λ (l : List B). set l n y) f
    ∙ ap (λ (k : ℕ). set (xs ++ drop k before) k y) (sym e)
    ∙ behind xs before y (omega (arith, e))
    ∙ ap (λ (k : ℕ). (xs ++ y ∷ []) ++ drop k before) (ap suc e ∙ sym (add-one n))
