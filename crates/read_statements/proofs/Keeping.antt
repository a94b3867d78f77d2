-- Statements that are kept as they are read.
-- Assumes nothing.
use mathlib.Core.Path.{◌≡◌, refl, ◌∙◌, ap, sym, subst}
use mathlib.Core.List.{List, [], ◌∷◌, ◌++◌, map, map-append}
use Prim.Native.Nat.{ℕ, suc, ◌+◌, ◌≤◌, ◌<◌}
use native.Mathlib.Numerals.{add-one}
use native.Mathlib.Omega.{arith}
use lib.ListN.{length, take, set, length-set}
use lib.Seq.{take-suc-set}
use Rattle.reading.specs.Statement.{Statement}
use Rattle.reading.specs.Answer.{Answer, accepted, refused}
use Rattle.reading.specs.Read.{between, prepend, read_text}
use Rattle.reading_laws.specs.Admitted.{Admitted}
use Rattle.reading_laws.specs.Reads.{prepend_all}
use Rattle.reading_laws.proofs.Joining.{accepted-text}
use Rattle.read_statements.specs.Answers.{reading_at}

-- statements in front of an answer
prepend-last : (xs : List Statement) (y : Statement) (a : Answer (List Statement)) → prepend_all (xs ++ y ∷ []) a ≡ prepend_all xs (prepend y a)
prepend-last [] y a = refl
prepend-last (x ∷ xs) y a = ap (prepend x) (prepend-last xs y a)

prepend-none : (xs : List Statement) → prepend_all xs (accepted []) ≡ accepted xs
prepend-none [] = refl
prepend-none (x ∷ xs) = ap (prepend x) (prepend-none xs)

prepend-refused : (xs : List Statement) (k p : ℕ) → prepend_all xs (refused k p) ≡ refused k p
prepend-refused [] k p = refl
prepend-refused (x ∷ xs) k p = ap (prepend x) (prepend-refused xs k p)

-- What is kept of a statement, whatever it is, and the statement that it stands for.
module _ {F : Type 0} (mean : F → Statement) where
  -- the statements of the first so many
  abbrev pub first_ones : ℕ → List F → List Statement
  first_ones n forms = map mean (take n forms)

  -- So many statements were read, and their forms are kept.
  pub record Keeping (limit : ℕ) (s : List ℕ) (forms : List F) (n cur : ℕ) : Type 0 where
    pub read : reading_at limit s 0 between 0 ≡ prepend_all (first_ones n forms) (reading_at limit s n between cur)
    pub few : n ≤ cur
    pub held : n ≤ length forms

  pub none_kept : (limit : ℕ) (s : List ℕ) (forms : List F) → Keeping limit s forms 0 0
  none_kept limit s forms = record { read = refl; few = omega arith; held = omega arith }

module _ {F : Type 0} {mean : F → Statement} {limit : ℕ} {s : List ℕ} {forms : List F} {n cur : ℕ} (g : Keeping mean limit s forms n cur) where
  -- one more
  pub one_kept :
      (f : F) (p : ℕ)
      → reading_at limit s n between cur ≡ prepend (mean f) (reading_at limit s (suc n) between p)
      → n < length forms
      → cur < p
      → Keeping mean limit s (set forms n f) (n + 1) p
  one_kept f p e h q =
      subst (λ (k : ℕ). Keeping mean limit s (set forms n f) k p) (sym (add-one n))
      (record {
        read =
            g.read
            ∙ ap (prepend_all (first_ones mean n forms)) e
            ∙ sym (prepend-last (first_ones mean n forms) (mean f) _)
            ∙ ap (λ (l : List Statement). prepend_all l (reading_at limit s (suc n) between p))
            (sym (ap (map mean) (take-suc-set forms n f h) ∙ map-append mean (take n forms) (f ∷ [])));
        few = omega (arith, g.few);
        held = omega (arith, length-set forms n f);
      })

  -- a refusal is the text's
  pub refused_then : (k p : ℕ) → reading_at limit s n between cur ≡ refused k p → reading_at limit s 0 between 0 ≡ refused k p
  refused_then k p e = g.read ∙ ap (prepend_all (first_ones mean n forms)) e ∙ prepend-refused (first_ones mean n forms) k p

  -- the end: these are all
  pub ended_then : reading_at limit s n between cur ≡ accepted [] → reading_at limit s 0 between 0 ≡ accepted (first_ones mean n forms)
  ended_then e = g.read ∙ ap (prepend_all (first_ones mean n forms)) e ∙ prepend-none (first_ones mean n forms)

  pub accepted_then : Admitted limit s → reading_at limit s n between cur ≡ accepted [] → read_text limit s ≡ accepted (first_ones mean n forms)
  accepted_then h e = accepted-text limit s (first_ones mean n forms) h (ended_then e)
