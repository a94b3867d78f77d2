-- The statement at an index, found by going from one to the next.
-- Assumes nothing.
use Rattle.std.specs.Prelude.{Option as Option·rust, Some, None, ok_or}
use mathlib.Core.Path.{◌≡◌, refl, ◌∙◌, ap, sym}
use mathlib.Core.Bool.{Bool, true, false}
use mathlib.Core.List.{List, [], ◌∷◌}
use mathlib.Core.Option.{Option, some, none}
use Prim.Native.Nat.{ℕ, suc, ◌-◌, ◌≤◌, ◌<◌}
use native.Mathlib.Omega.{arith}
use borrow.Author.Tests.{ltb-true, ltb-false}
use lib.Dec.{ltb}
use lib.ListN.{get_elem?}
use Rattle.reading.specs.Statement.{Statement}
use Rattle.reading.specs.Answer.{Answer, accepted, refused}
use Rattle.reading.specs.Read.{prepend}
use Rattle.reading.specs.Calls.{chosen}
use Rattle.read_forms.specs.declared.Statement as form
use Rattle.read_forms.specs.declared.Fault.TheVariants.{NoStatement}
use Rattle.read_forms.specs.Forms.{some_in, statement_in}
use Rattle.read_forms.specs.Faults.{answered}
use Rattle.read_text.specs.Answers.{indexed}

-- a statement that was kept, if any, is the answer, unless what is left is refused
abbrev pub keeping : Option Statement → Answer (List Statement) → Answer (Option Statement)
keeping x (accepted ss) = accepted x
keeping x (refused k p) = refused k p

first-kept : (x : Statement) (a : Answer (List Statement)) → indexed 0 (prepend x a) ≡ keeping (some x) a
first-kept x (accepted ss) = refl
first-kept x (refused k p) = refl

next-index : (i : ℕ) (x : Statement) (a : Answer (List Statement)) → indexed (suc i) (prepend x a) ≡ indexed i a
next-index i x (accepted ss) = refl
next-index i x (refused k p) = refl

still_kept : (x : Option Statement) (y : Statement) (a : Answer (List Statement)) → keeping x (prepend y a) ≡ keeping x a
still_kept x y (accepted ss) = refl
still_kept x y (refused k p) = refl

-- after so many of all statements: that at the index is among those left and none is kept, or it is the one that was kept
pub record Sought (i n : ℕ) (x : Option Statement) (all rest : Answer (List Statement)) : Type 0 where
  pub early : n ≤ i → indexed i all ≡ indexed (i - n) rest
  pub empty : n ≤ i → x ≡ none
  pub late : i < n → indexed i all ≡ keeping x rest

pub none_passed : (i : ℕ) (all : Answer (List Statement)) → Sought i 0 none all all
none_passed i all =
    record {
      early = λ h. let k : i ≡ i - 0 = omega arith in ap (λ (j : ℕ). indexed j all) k;
      empty = λ h. refl;
      late = λ h. absurd (omega arith);
    }

module _ {i n : ℕ} {x : Option Statement} {all rest : Answer (List Statement)} (g : Sought i n x all rest) where
  module _ (y : Statement) (more : Answer (List Statement)) (e : rest ≡ prepend y more) where
    not_yet : suc n ≤ i → indexed i all ≡ indexed (i - suc n) more
    not_yet h =
        let k : i - n ≡ suc (i - suc n) = omega arith in
        g.early (omega arith) ∙ ap (indexed (i - n)) e ∙ ap (λ (j : ℕ). indexed j (prepend y more)) k ∙ next-index (i - suc n) y more

    -- the next statement is the one at the index, and is kept
    pub kept_here : n ≡ i → Sought i (suc n) (some y) all more
    kept_here q =
        record {
          early = not_yet;
          empty = λ h. absurd (omega (arith, q));
          late = λ h.
              let k : i - n ≡ 0 = omega arith in
              g.early (omega arith) ∙ ap (indexed (i - n)) e ∙ ap (λ (j : ℕ). indexed j (prepend y more)) k ∙ first-kept y more;
        }

    -- it is another, and is passed
    pub passed_by : (n ≡ i → ⊥) → Sought i (suc n) x all more
    passed_by q =
        record {
          early = not_yet;
          empty = λ h. g.empty (omega arith);
          late = λ h.
              let k : i < n = omega (arith, q) in
              g.late k ∙ ap (keeping x) e ∙ still_kept x y more;
        }

  -- nothing is left: the one that was kept, or none
  pub found_end : rest ≡ accepted [] → indexed i all ≡ accepted x
  found_end e = by (ltb i n) refl
    where
      by : (t : Bool) → ltb i n ≡ t → indexed i all ≡ accepted x
      by true h = g.late (ltb-true i n h) ∙ ap (keeping x) e
      by false h = let k : n ≤ i = ltb-false i n h in g.early k ∙ ap (indexed (i - n)) e ∙ ap accepted (sym (g.empty k))

  -- what is left is refused
  pub found-refused : (k p : ℕ) → rest ≡ refused k p → indexed i all ≡ refused k p
  found-refused k p e = by (ltb i n) refl
    where
      by : (t : Bool) → ltb i n ≡ t → indexed i all ≡ refused k p
      by true h = g.late (ltb-true i n h) ∙ ap (keeping x) e
      by false h = g.early (ltb-false i n h) ∙ ap (indexed (i - n)) e

-- an answer for an index is one of statements that are accepted, and a refusal stays one
pub indexed-accepted :
    (i : ℕ) (o : Option Statement) (a : Answer (List Statement))
    → indexed i a ≡ accepted o
    → (ss : List Statement) × (a ≡ accepted ss) × (get_elem? ss i ≡ o)
indexed-accepted i o (accepted ss) e = (ss, refl, cc)
indexed-accepted i o (refused k p) e = absurd (let z : ◌≡◌ {A = ℕ} 0 1 = cc in omega arith)

pub indexed-refused : (i k p : ℕ) (a : Answer (List Statement)) → indexed i a ≡ refused k p → a ≡ refused k p
indexed-refused i k p (accepted ss) e = absurd (let z : ◌≡◌ {A = ℕ} 0 1 = cc in omega arith)
indexed-refused i k p (refused k' p') e = cc

-- the statement that was kept, or 20
pub chosen_told :
    (s : List ℕ) (i : ℕ) (kept : Option·rust form.Statement)
    → answered (statement_in s) (ok_or kept (record { fault = NoStatement; place = i }))
    ≡ chosen i (some_in (statement_in s) kept)
unfolding some_in
chosen_told s i None = refl
chosen_told s i (Some x) = refl
