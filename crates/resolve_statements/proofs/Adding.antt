-- What the statements so far bring, and one more.
-- Assumes nothing.
use Prim.Native.Nat.{ℕ, suc, ◌+◌}
use native.Mathlib.Nat.{add-zero}
use native.Mathlib.Omega.{arith}
use mathlib.Core.Path.{◌≡◌, refl, ◌∙◌, ap, ap₂, sym, subst}
use mathlib.Core.List.{List, [], ◌∷◌, ◌++◌, map, map-append, append_assoc, append-nil}
use lib.ListN.{length, length-append}
use Rattle.reading.specs.Answer.{Answer, accepted, refused, ◌>>=◌}
use Rattle.reading.specs.Statement.{Statement}
use Rattle.reading.proofs.Answers.{value_of}
use Rattle.print_writing.specs.Written.{Written}
use Rattle.print_writing.proofs.Writing.{nothing_written, written_on}
use Rattle.canonical.specs.Lines.{piece_of, rest_of}
use Rattle.text.specs.Lists.{gather}
use Rattle.resolving.specs.Brought.{Brought, defining, dropped, stays, brings, at_index, each_from}
use Rattle.resolving.specs.Ground.{staying}
use Rattle.resolving_laws.specs.Flat.{Term, term, terms_from}
use Rattle.resolve_merging.specs.Packing.{term_of}
use Rattle.resolve_statements.specs.declared.Tally.{Tally}
use Rattle.resolve_statements.specs.Tallies.{note_of, notes_from, Adds, Added}

-- One more at the end of a list.

module _ (b : Brought) where
  terms-last : (i : ℕ) (bs : List Brought) → terms_from i (bs ++ b ∷ []) ≡ terms_from i bs ++ terms_from (i + length bs) (b ∷ [])
  terms-last i [] = ap (λ (k : ℕ). terms_from k (b ∷ [])) (sym (add-zero i))
  terms-last i (defining ∷ bs) = terms-last (suc i) bs ∙ later i bs
    where
      later : (i : ℕ) (bs : List Brought)
          → terms_from (suc i) bs ++ terms_from (suc i + length bs) (b ∷ []) ≡ terms_from (suc i) bs ++ terms_from (i + suc (length bs)) (b ∷ [])
      later i bs = let e : suc i + length bs ≡ i + suc (length bs) = omega arith in rw e refl
  terms-last i (dropped ∷ bs) =
      let e : suc i + length bs ≡ i + suc (length bs) = omega arith in
      terms-last (suc i) bs ∙ ap (λ (k : ℕ). terms_from (suc i) bs ++ terms_from k (b ∷ [])) e
  terms-last i (stays f ∷ bs) =
      let e : suc i + length bs ≡ i + suc (length bs) = omega arith in
      terms-last (suc i) bs ∙ ap (λ (k : ℕ). terms_from (suc i) bs ++ terms_from k (b ∷ [])) e
  terms-last i (brings x es ∷ bs) =
      let e : suc i + length bs ≡ i + suc (length bs) = omega arith in
      ap (λ (l : List Term). map (term i x) es ++ l)
      (terms-last (suc i) bs ∙ ap (λ (k : ℕ). terms_from (suc i) bs ++ terms_from k (b ∷ [])) e)
      ∙ sym (append_assoc (map (term i x) es) (terms_from (suc i) bs) (terms_from (i + suc (length bs)) (b ∷ [])))

  notes-last : (i : ℕ) (bs : List Brought) → notes_from i (bs ++ b ∷ []) ≡ notes_from i bs ++ note_of (i + length bs) b
  notes-last i [] = append-nil (note_of i b) ∙ ap (λ (k : ℕ). note_of k b) (sym (add-zero i))
  notes-last i (x ∷ bs) =
      let e : suc i + length bs ≡ i + suc (length bs) = omega arith in
      ap (λ (l : List ℕ). note_of i x ++ l) (notes-last (suc i) bs ∙ ap (λ (k : ℕ). notes_from (suc i) bs ++ note_of k b) e)
      ∙ sym (append_assoc (note_of i x) (notes_from (suc i) bs) (note_of (i + suc (length bs)) b))

  pub staying-last : (bs : List Brought) → gather staying (bs ++ b ∷ []) ≡ gather staying bs ++ staying b
  staying-last [] = append-nil (staying b)
  staying-last (x ∷ bs) =
      ap (λ (l : List Statement). staying x ++ l) (staying-last bs) ∙ sym (append_assoc (staying x) (gather staying bs) (staying b))

-- the pieces of statements one after the other
pub rest-append : (n : ℕ) (xs ys : List Statement) → rest_of n (xs ++ ys) ≡ rest_of n xs ++ rest_of (n + length xs) ys
rest-append n [] ys = ap (λ (k : ℕ). rest_of k ys) (sym (add-zero n))
rest-append n (x ∷ xs) ys =
    let e : suc n + length xs ≡ n + suc (length xs) = omega arith in
    ap (λ (l : List ℕ). piece_of n x ++ l) (rest-append (suc n) xs ys ∙ ap (λ (k : ℕ). rest_of (suc n) xs ++ rest_of k ys) e)
    ∙ sym (append_assoc (piece_of n x) (rest_of (suc n) xs) (rest_of (n + suc (length xs)) ys))

abbrev pub nothing : Tally
nothing = record { terms = 0; stays = 0; ground = 0; dropped = 0 }

pub none-added : (ts ds : List ℕ) → Added [] ts ds nothing ts ds
none-added ts ds = record {
  numbers = [];
  mean = refl;
  terms = nothing_written ts 0;
  dropped = nothing_written ds 0;
  stays = refl;
  ground = refl;
}

pub one-added :
    {bs : List Brought} {b : Brought} {i : ℕ} {ts₀ ds₀ ts ds ts' ds' : List ℕ} {t u : Tally}
    → Added bs ts₀ ds₀ t ts ds
    → length bs ≡ i
    → Adds b i t ts ds u ts' ds'
    → Added (bs ++ b ∷ []) ts₀ ds₀ u ts' ds'
one-added {bs} {b} {i} {ts₀} {ds₀} {ts} {ds} {ts'} {ds'} {t} {u} a e d =
    let k : 0 + length bs ≡ i = omega (arith, e) in
    record {
      numbers = a.numbers ++ d.numbers;
      mean =
          map-append term_of a.numbers d.numbers
          ∙ ap₂ (λ (x y : List Term). x ++ y) a.mean d.mean
          ∙ ap (λ (j : ℕ). terms_from 0 bs ++ terms_from j (b ∷ [])) (sym k)
          ∙ sym (terms-last b 0 bs);
      terms = written_on a.terms d.terms;
      dropped =
          subst (λ (l : List ℕ). Written ds₀ 0 l ds' u.dropped)
          (ap (λ (j : ℕ). notes_from 0 bs ++ note_of j b) (sym k) ∙ sym (notes-last b 0 bs))
          (written_on a.dropped d.dropped);
      stays = omega (arith, a.stays, d.stays, length-append (gather staying bs) (staying b), ap length (staying-last b bs));
      ground =
          let m : t.stays ≡ 0 + length (gather staying bs) = omega (arith, a.stays) in
          omega (
            arith,
            a.ground,
            d.ground,
            ap (λ (j : ℕ). length (rest_of j (staying b))) m,
            length-append (rest_of 0 (gather staying bs)) (rest_of (0 + length (gather staying bs)) (staying b)),
            ap length (rest-append 0 (gather staying bs) (staying b)),
            ap (λ (l : List Statement). length (rest_of 0 l)) (staying-last b bs),
          );
    }

-- Statements taken in order.

abbrev pub after : {B : Type 0} → List B → Answer (List B) → Answer (List B)
after bs a = a >>= (λ cs. accepted (bs ++ cs))

module _ {A B : Type 0} (f : A → Answer B) where
  pub after_none : (a : Answer (List B)) → a ≡ after [] a
  after_none (accepted cs) = refl
  after_none (refused k p) = refl

  -- one more is taken
  pub after_one : (bs : List B) (i : ℕ) (x : A) (xs : List A) (b : B) → f x ≡ accepted b
      → after bs (each_from f i (x ∷ xs)) ≡ after (bs ++ b ∷ []) (each_from f (suc i) xs)
  after_one bs i x xs b e = rw e (on (each_from f (suc i) xs))
    where
      on : (a : Answer (List B)) → after bs (a >>= (λ ys. accepted (b ∷ ys))) ≡ after (bs ++ b ∷ []) a
      on (accepted cs) = ap accepted (sym (append_assoc bs (b ∷ []) cs))
      on (refused k p) = refl

  -- a fault stands at its index
  pub after_fault : (bs : List B) (i : ℕ) (x : A) (xs : List A) (k : ℕ) → f x ≡ refused k 0 → after bs (each_from f i (x ∷ xs)) ≡ refused k i
  after_fault bs i x xs k e = rw e refl

  pub after_all : (bs : List B) (i : ℕ) → after bs (each_from f i []) ≡ accepted bs
  after_all bs i = ap accepted (append-nil bs)

-- what the first brings, and the others
pub record First {A B : Type 0} (f : A → Answer B) (i : ℕ) (x : A) (xs : List A) (bs : List B) : Type 0 where
  pub one : B
  pub others : List B
  pub brought : f x ≡ accepted one
  pub each : each_from f (suc i) xs ≡ accepted others
  pub are : bs ≡ one ∷ others

pub first_of : {A B : Type 0} (f : A → Answer B) (i : ℕ) (x : A) (xs : List A) (bs : List B) → each_from f i (x ∷ xs) ≡ accepted bs → First f i x xs bs
first_of {A} {B} f i x xs bs e = by_first (f x) refl (each_from f (suc i) xs) refl e
  where
    by_first : (a : Answer B) → f x ≡ a → (r : Answer (List B)) → each_from f (suc i) xs ≡ r
        → (at_index i a >>= (λ y. r >>= (λ ys. accepted (y ∷ ys)))) ≡ accepted bs
        → First f i x xs bs
    by_first (accepted b) p (accepted cs) q h = record { one = b; others = cs; brought = p; each = q; are = sym (value_of h) }
    by_first (accepted b) p (refused k o) q h = let z : ◌≡◌ {A = ℕ} 0 1 = cc in absurd (omega arith)
    by_first (refused k o) p r q h = let z : ◌≡◌ {A = ℕ} 0 1 = cc in absurd (omega arith)
