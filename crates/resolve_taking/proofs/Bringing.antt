-- What the statements of a list bring, taken in order: so many so far, and one more.
-- Assumes nothing.
use Prim.Native.Nat.{ℕ, suc, ◌+◌, ◌*◌, ◌≤◌}
use native.Mathlib.Numerals.{add-one}
use native.Mathlib.Omega.{arith}
use mathlib.Core.Path.{◌≡◌, refl, ◌∙◌, ap, sym, subst}
use mathlib.Core.List.{List, [], ◌∷◌, ◌++◌}
use lib.ListN.{length, drop, length-append, drop_of_length-le}
use Rattle.reading.specs.Answer.{Answer, accepted, refused}
use Rattle.reading.specs.Statement.{Statement}
use Rattle.print_writing.specs.Written.{Written}
use Rattle.print_writing.proofs.Writing.{nothing_written, written_on}
use Rattle.canonical.specs.Lines.{rest_of}
use Rattle.text.specs.Lists.{gather}
use Rattle.resolving.specs.Brought.{Brought, defining, dropped, stays, brings, each_from}
use Rattle.resolving.specs.Ground.{staying}
use Rattle.resolve_statements.specs.declared.Tally.{Tally}
use Rattle.resolve_statements.specs.Tallies.{note_of, Adds, Added}
use Rattle.resolve_statements.proofs.Adding.{nothing, none-added, one-added, staying-last, rest-append, after, after_none, after_one, after_fault, after_all}

-- So many statements were taken, and the ground statements of those that stay were written.
pub record Bringing (f : Statement → Answer Brought) (ss : List Statement) (i : ℕ) (ts₀ ds₀ : List ℕ) (t : Tally)
    (ts ds out₀ out : List ℕ) : Type 0 where
  pub what : List Brought
  pub many : length what ≡ i
  pub each : each_from f 0 ss ≡ after what (each_from f i (drop i ss))
  pub added : Added what ts₀ ds₀ t ts ds
  pub text : Written out₀ 0 (rest_of 0 (gather staying what)) out t.ground
  pub few : t.terms ≤ 32768 * i
  pub small : t.ground ≤ 20001 * i
  pub stay : t.stays ≤ i
  pub noted : t.dropped ≤ i

pub none-brought : (f : Statement → Answer Brought) (ss : List Statement) (ts ds out : List ℕ) → Bringing f ss 0 ts ds nothing ts ds out out
none-brought f ss ts ds out =
    record {
      what = [];
      many = refl;
      each = after_none f (each_from f 0 ss);
      added = none-added ts ds;
      text = nothing_written out 0;
      few = omega arith;
      small = omega arith;
      stay = omega arith;
      noted = omega arith;
    }

stay_one : (b : Brought) → length (staying b) ≤ 1
stay_one defining = omega arith
stay_one dropped = omega arith
stay_one (stays f) = omega arith
stay_one (brings x es) = omega arith

note_one : (i : ℕ) (b : Brought) → length (note_of i b) ≤ 1
note_one i defining = omega arith
note_one i dropped = omega arith
note_one i (stays f) = omega arith
note_one i (brings x es) = omega arith

module _ {f : Statement → Answer Brought} {ss : List Statement} {i : ℕ} {ts₀ ds₀ : List ℕ} {t : Tally} {ts ds out₀ out : List ℕ}
    (g : Bringing f ss i ts₀ ds₀ t ts ds out₀ out) where
  -- the statement at the index, and those behind it
  module _ (x : Statement) (h : drop i ss ≡ x ∷ drop (suc i) ss) where
    pub one-brought : {b : Brought} {u : Tally} {ts' ds' out' : List ℕ}
        → f x ≡ accepted b
        → Adds b i t ts ds u ts' ds'
        → Written out t.ground (rest_of t.stays (staying b)) out' u.ground
        → Bringing f ss (i + 1) ts₀ ds₀ u ts' ds' out₀ out'
    one-brought {b} {u} {ts'} {ds'} {out'} e a w =
        let m : t.stays ≡ 0 + length (gather staying g.what) = omega (arith, g.added.stays) in
        subst (λ (k : ℕ). Bringing f ss k ts₀ ds₀ u ts' ds' out₀ out') (sym (add-one i))
        (record {
          what = g.what ++ b ∷ [];
          many = omega (arith, g.many, length-append g.what (b ∷ []));
          each =
              g.each
              ∙ ap (λ (l : List Statement). after g.what (each_from f i l)) h
              ∙ after_one f g.what i x (drop (suc i) ss) b e;
          added = one-added g.added g.many a;
          text =
              subst (λ (l : List ℕ). Written out₀ 0 l out' u.ground)
              (ap (λ (k : ℕ). rest_of 0 (gather staying g.what) ++ rest_of k (staying b)) m
              ∙ sym (rest-append 0 (gather staying g.what) (staying b))
              ∙ sym (ap (rest_of 0) (staying-last b g.what)))
              (written_on g.text w);
          few = omega (arith, g.few, a.few, a.terms.next);
          small = omega (arith, g.small, a.small, a.ground);
          stay = omega (arith, g.stay, a.stays, stay_one b);
          noted = omega (arith, g.noted, a.dropped.next, note_one i b);
        })

    -- a fault is that of all, at its index
    pub one-refused : (k : ℕ) → f x ≡ refused k 0 → each_from f 0 ss ≡ refused k i
    one-refused k e =
        g.each
        ∙ ap (λ (l : List Statement). after g.what (each_from f i l)) h
        ∙ after_fault f g.what i x (drop (suc i) ss) k e

  pub all-brought : length ss ≤ i → each_from f 0 ss ≡ accepted g.what
  all-brought h =
      g.each
      ∙ ap (λ (l : List Statement). after g.what (each_from f i l)) (drop_of_length-le ss h)
      ∙ after_all f g.what i
