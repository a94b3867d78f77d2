-- What one statement adds, from what it came to.
-- Assumes nothing.
use Prim.Native.Nat.{ℕ, ◌+◌, ◌≤◌}
use native.Mathlib.Nat.{add-zero}
use native.Mathlib.Omega.{arith}
use mathlib.Core.Path.{◌≡◌, refl, ◌∙◌, ap, sym, subst}
use mathlib.Core.List.{List, [], ◌∷◌, map, append-nil}
use lib.ListN.{length}
use Rattle.reading.specs.Answer.{Answer, accepted}
use Rattle.reading.specs.Statement.{Statement, feature}
use Rattle.reading.proofs.Answers.{value_of}
use Rattle.print_writing.specs.Written.{Written}
use Rattle.print_writing.proofs.Writing.{nothing_written}
use Rattle.canonical.specs.Lines.{piece_of, rest_of}
use Rattle.resolving.specs.Brought.{Brought, defining, dropped, stays, brings}
use Rattle.resolving_laws.specs.Flat.{term}
use Rattle.resolving.specs.Ground.{staying}
use Rattle.resolve_features.specs.Stays.{Stood}
use Rattle.resolve_features.specs.Terms.{Termed}
use Rattle.resolve_statements.specs.declared.Tally.{Tally}
use Rattle.resolve_statements.specs.Tallies.{Noted, Brings}

-- nothing is written where nothing is changed
unchanged : {ts ts' : List ℕ} {m n : ℕ} → ts' ≡ ts → n ≡ m → Written ts m [] ts' n
unchanged {ts} {ts'} {m} {n} e f =
    subst (λ (k : ℕ). Written ts m [] ts' k) (sym f) (subst (λ (l : List ℕ). Written ts m [] l m) (sym e) (nothing_written ts m))

module _ {a : Answer Brought} (i : ℕ) (t : Tally) where
  pub terms-added : {ts ts' : List ℕ} {r : ℕ} (ds : List ℕ)
      → Termed a i ts t.terms ts' r
      → Brings a i t ts ds (record { terms = r; stays = t.stays; ground = t.ground; dropped = t.dropped }) ts' ds
  terms-added ds w = record {
    what = brings w.explicit w.effects;
    brought = w.brought;
    adds =
        record {
          numbers = w.numbers;
          mean = w.mean ∙ sym (append-nil (map (term i w.explicit) w.effects));
          terms = w.written;
          dropped = nothing_written ds t.dropped;
          stays = sym (add-zero t.stays);
          ground = sym (add-zero t.ground);
          few = w.few;
          small = omega arith;
        };
  }

  pub dropped-added : {ts ts' ds ds' : List ℕ} {u : Tally}
      → a ≡ accepted dropped
      → ts' ≡ ts
      → Noted t i ds ds' u
      → Brings a i t ts ds u ts' ds'
  dropped-added {ts} {ts'} {ds} {ds'} {u} e f n = record {
    what = dropped;
    brought = e;
    adds =
        record {
          numbers = [];
          mean = refl;
          terms = unchanged f n.terms;
          dropped = n.dropped;
          stays = n.stays ∙ sym (add-zero t.stays);
          ground = n.ground ∙ sym (add-zero t.ground);
          few = omega arith;
          small = omega arith;
        };
  }

  pub statement-added : {before after : List ℕ} {r : ℕ} (ts ds : List ℕ)
      → Stood a t.stays before t.ground after r
      → Brings a i t ts ds (record { terms = t.terms; stays = t.stays + 1; ground = r; dropped = t.dropped }) ts ds
  statement-added {r = r} ts ds w =
      let p = piece_of t.stays (feature w.left) in
      record {
        what = stays w.left;
        brought = w.brought;
        adds =
            record {
              numbers = [];
              mean = refl;
              terms = nothing_written ts t.terms;
              dropped = nothing_written ds t.dropped;
              stays = refl;
              ground = w.written.next ∙ ap (λ (l : List ℕ). t.ground + length l) (sym (append-nil p));
              few = omega arith;
              small = subst (λ (l : List ℕ). length l ≤ 20001) (sym (append-nil p)) w.small;
            };
      }

  pub nothing-added : (ts ds : List ℕ) → a ≡ accepted defining → Brings a i t ts ds t ts ds
  nothing-added ts ds e = record {
    what = defining;
    brought = e;
    adds =
        record {
          numbers = [];
          mean = refl;
          terms = nothing_written ts t.terms;
          dropped = nothing_written ds t.dropped;
          stays = sym (add-zero t.stays);
          ground = sym (add-zero t.ground);
          few = omega arith;
          small = omega arith;
        };
  }

-- The ground text of those that stay: what one statement adds to it.

module _ {a : Answer Brought} (n : ℕ) {at : ℕ} {before after : List ℕ} {r : ℕ} where
  pub prints-known : {x : Brought}
      → a ≡ accepted x
      → Written before at (rest_of n (staying x)) after r
      → (b : Brought) → a ≡ accepted b → Written before at (rest_of n (staying b)) after r
  prints-known e w b h =
      subst (λ (y : Brought). Written before at (rest_of n (staying y)) after r) (value_of (sym e ∙ h)) w

  pub prints_stood : Stood a n before at after r → (b : Brought) → a ≡ accepted b → Written before at (rest_of n (staying b)) after r
  prints_stood w =
      prints-known w.brought
      (subst (λ (l : List ℕ). Written before at l after r) (sym (append-nil (piece_of n (feature w.left)))) w.written)

  -- nothing, where the text is as it was
  pub prints-dropped : a ≡ accepted dropped → after ≡ before → r ≡ at → (b : Brought) → a ≡ accepted b → Written before at (rest_of n (staying b)) after r
  prints-dropped e f g = prints-known e (unchanged f g)

none_of : (l : List Statement) → length l ≡ 0 → l ≡ []
none_of [] e = refl
none_of (x ∷ l) e = absurd (omega (arith, e))

-- a statement of which nothing stays prints nothing
pub prints-none : {a : Answer Brought} {i : ℕ} {t u : Tally} {ts ds ts' ds' out : List ℕ}
    → Brings a i t ts ds u ts' ds'
    → u.stays ≡ t.stays
    → u.ground ≡ t.ground
    → (b : Brought) → a ≡ accepted b → Written out t.ground (rest_of t.stays (staying b)) out u.ground
prints-none {a} {i} {t} {u} {ts} {ds} {ts'} {ds'} {out} w e f =
    let z : length (staying w.what) ≡ 0 = omega (arith, e, w.adds.stays) in
    prints-known t.stays w.brought
    (subst (λ (l : List Statement). Written out t.ground (rest_of t.stays l) out u.ground) (sym (none_of (staying w.what) z))
    (unchanged refl f))
