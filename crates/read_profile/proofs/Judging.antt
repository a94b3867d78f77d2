-- Statements judged one after the other: which of the five were seen stands in five flags, and what is said of those that are left is said of
-- all.
-- Assumes nothing.
use Prim.Native.Nat.{ℕ, zero, suc, ◌+◌, ◌≤◌, ◌<◌}
use native.Mathlib.Omega.{arith}
use mathlib.Core.Path.{◌≡◌, refl, ◌∙◌, ap, sym, subst}
use mathlib.Core.Bool.{Bool, true, false, cond, ◌||◌}
use mathlib.Core.List.{List, [], ◌∷◌, map}
use lib.Dec.{eqb}
use lib.ListN.{length, get_or, set, length-set}
use lib.Seq.{slice, slice-cons, slice_empty, get_or-set_same, get_or-set_other}
use borrow.Author.Tests.{eqb-true, eqb-false}
use Rattle.reading.specs.Answer.{accepted, refused}
use Rattle.text.specs.Lists.{any}
use Rattle.profiling.specs.Profile.{Mark, outside, plain, once, mark_of, is_of, profile_from}
use Rattle.read_forms.specs.declared.Statement as form
use Rattle.read_parts.specs.Apart.{apart}
use Rattle.read_parts.specs.Meaning.{PartsFit}
use Rattle.read_parts.proofs.Fitting.{statement-fits}
use Rattle.read_space.specs.declared.Form.{Form}
use Rattle.read_space.specs.Space.{form_in}
use Rattle.read_space.specs.Fit.{Fit}

-- the marks of the statements from an index on
abbrev marks_from : List ℕ → List Form → ℕ → ℕ → List Mark
marks_from s forms count i = map mark_of (map (form_in s) (slice i count forms))

-- the flags say which of the five are among those seen
abbrev Flagged : List Bool → List Mark → Type 0
Flagged flags seen = (k : ℕ) → k < 5 → get_or flags k false ≡ any (is_of k) seen

pub record Judging (s : List ℕ) (forms : List Form) (count : ℕ) (flags : List Bool) (i : ℕ) : Type 0 where
  pub most : i ≤ count
  pub size : length flags ≡ 5
  pub seen : List Mark
  pub flagged : Flagged flags seen
  pub left : profile_from i seen (marks_from s forms count i) ≡ profile_from 0 [] (marks_from s forms count 0)

abbrev no_flags : List Bool
no_flags = false ∷ false ∷ false ∷ false ∷ false ∷ []

none-flagged : Flagged no_flags []
none-flagged zero h = refl
none-flagged (suc zero) h = refl
none-flagged (suc (suc zero)) h = refl
none-flagged (suc (suc (suc zero))) h = refl
none-flagged (suc (suc (suc (suc zero)))) h = refl
none-flagged (suc (suc (suc (suc (suc k))))) h = refl

pub none_judged : (s : List ℕ) (forms : List Form) (count : ℕ) → Judging s forms count no_flags 0
none_judged s forms count = record { most = omega arith; size = refl; seen = []; flagged = none-flagged; left = refl }

-- one more flag
one-flagged :
    (flags : List Bool) (seen : List Mark) (k : ℕ) (h : Bool) → length flags ≡ 5 → k < 5 → Flagged flags seen
    → Flagged (set flags k true) (once k h ∷ seen)
one-flagged flags seen k h size below f j b = by_cases (eqb j k) refl
  where
    by_cases : (t : Bool) → eqb j k ≡ t → get_or (set flags k true) j false ≡ t || any (is_of j) seen
    by_cases true e =
        subst (λ (n : ℕ). get_or (set flags k true) n false ≡ true) (sym (eqb-true j k e)) (get_or-set_same flags k true false (omega (arith, size, below)))
    by_cases false e = get_or-set_other flags k j true false (eqb-false j k e) ∙ f j b

module _ {s : List ℕ} {forms : List Form} {count : ℕ} {flags : List Bool} {i : ℕ} (g : Judging s forms count flags i) where
  -- all are judged
  pub all_judged : count ≤ i → accepted tt ≡ profile_from 0 [] (marks_from s forms count 0)
  unfolding profile_from
  all_judged h =
      let e : i ≡ count = omega (arith, h, g.most) in
      let z : marks_from s forms count i ≡ [] =
      ap (marks_from s forms count) e ∙ ap (λ (l : List Form). map mark_of (map (form_in s) l)) (slice_empty count forms) in
      sym (ap (profile_from i g.seen) z) ∙ g.left

  module _ (d : Form) (h : i < count) (held : count ≤ length forms) (m : Mark) (e : m ≡ mark_of (form_in s (get_or forms i d))) where
    abbrev others : List Mark
    others = marks_from s forms count (suc i)

    -- the mark at the index, and those behind it
    this-first : profile_from i g.seen (m ∷ others) ≡ profile_from 0 [] (marks_from s forms count 0)
    this-first =
        ap (λ (x : Mark). profile_from i g.seen (x ∷ others)) e
        ∙ ap (profile_from i g.seen) (sym (ap (λ (l : List Form). map mark_of (map (form_in s) l)) (slice-cons i count forms d h held)))
        ∙ g.left

    next : suc i ≡ i + 1
    next = omega arith

    -- it is outside
    pub outside-refused : m ≡ outside → refused 22 i ≡ profile_from 0 [] (marks_from s forms count 0)
    unfolding profile_from
    outside-refused q = sym (ap (λ (x : Mark). profile_from i g.seen (x ∷ others)) q) ∙ this-first

    -- it is none of the five
    pub plain-passed : m ≡ plain → Judging s forms count flags (i + 1)
    unfolding profile_from
    plain-passed q =
        subst (Judging s forms count flags) next
        (record {
          most = h;
          size = g.size;
          seen = plain ∷ g.seen;
          flagged = g.flagged;
          left = sym (ap (λ (x : Mark). profile_from i g.seen (x ∷ others)) q) ∙ this-first;
        })

    module _ (k : ℕ) (high : Bool) (below : k < 5) (q : m ≡ once k high) where
      -- it is one of the five
      by_tests :
          (t u : Bool) → get_or flags k false ≡ t → high ≡ u
          → cond t (refused 23 i) (cond u (refused 24 i) (profile_from (suc i) (once k high ∷ g.seen) others))
          ≡ profile_from 0 [] (marks_from s forms count 0)
      unfolding profile_from
      by_tests t u a b =
          ap (λ (t : Bool). cond t (refused 23 i) (cond u (refused 24 i) (profile_from (suc i) (once k high ∷ g.seen) others)))
          (sym a ∙ g.flagged k below)
          ∙ ap
          (λ (u : Bool). cond (any (is_of k) g.seen) (refused 23 i) (cond u (refused 24 i) (profile_from (suc i) (once k high ∷ g.seen) others)))
          (sym b)
          ∙ sym (ap (λ (x : Mark). profile_from i g.seen (x ∷ others)) q)
          ∙ this-first

      -- and stood before
      pub second-refused : get_or flags k false ≡ true → refused 23 i ≡ profile_from 0 [] (marks_from s forms count 0)
      second-refused a = by_tests true high a refl

      -- and has a count above 10
      pub high-refused : get_or flags k false ≡ false → high ≡ true → refused 24 i ≡ profile_from 0 [] (marks_from s forms count 0)
      high-refused a b = by_tests false true a b

      -- or neither
      pub once-passed : get_or flags k false ≡ false → high ≡ false → Judging s forms count (set flags k true) (i + 1)
      once-passed a b =
          subst (Judging s forms count (set flags k true)) next
          (record {
            most = h;
            size = length-set flags k true ∙ g.size;
            seen = once k high ∷ g.seen;
            flagged = one-flagged flags g.seen k high g.size below g.flagged;
            left = by_tests false false a b;
          })

-- a statement that was read has lists that can be read again
pub form-fits : (s : List ℕ) (st : form.Statement) → Fit s st → PartsFit s (apart st)
form-fits s st f = statement-fits f.limit s st f.read
