-- The ground space of what the statements bring: how many statements it has, its text, its notes; and each fault of merging and grounding.
-- Assumes nothing.
use Prim.Native.Nat.{ℕ, suc, ◌+◌, ◌≤◌, ◌<◌}
use native.Mathlib.Omega.{arith}
use mathlib.Core.Path.{◌≡◌, refl, ◌∙◌, ap, ap₂, sym}
use mathlib.Core.Bool.{Bool, true, false, cond}
use mathlib.Core.List.{List, [], ◌∷◌, ◌++◌, map, map-append}
use mathlib.Core.Option.{Option, some, none}
use borrow.Author.Tests.{lt-ltb, le-ltb}
use lib.Dec.{eqb}
use lib.ListN.{length, length-append, length-map}
use Rattle.reading.specs.Answer.{Answer, accepted, refused}
use Rattle.reading.specs.Statement.{Statement}
use Rattle.canonical.specs.Lines.{rest_of}
use Rattle.canonical.proofs.Lines.{canonical_pieces}
use Rattle.text.specs.Lists.{any, gather}
use Rattle.resolving.specs.Faults.{forced_twice, too_large}
use Rattle.resolving.specs.Context.{Context, covariates}
use Rattle.resolving.specs.Symbols.{Meaning}
use Rattle.resolving.specs.Effects.{Effect}
use Rattle.resolving.specs.Brought.{Brought, defining, dropped, stays, brings, bring, each_from}
use Rattle.resolving.specs.Merging.{effects_in, forced_again, merged}
use Rattle.resolving.specs.Ground.{groups, group_of, forms_in, ground_covariate, ground_effects, staying, ground}
use Rattle.resolving.specs.Resolve.{Resolved, ground_text, dropped_from, additive, at_most_once, up_to, outcome, merge_and_ground}
use Rattle.resolving.specs.Call.{note_numbers}
use Rattle.resolving_laws.specs.Flat.{term, terms_from}
use Rattle.text.proofs.All.{All, all_weaker}
use Rattle.resolving_laws.proofs.Fewness.{place-below}
use Rattle.resolving_laws.proofs.Passed.{gives_accepted}
use Rattle.resolving_laws.proofs.Stands.{Written}
use Rattle.resolving_laws.proofs.Standing.{all-stand}
use Rattle.resolving_laws.proofs.Reresolving.{merged-fit}
use Rattle.resolve_groups.specs.Known.{Entered}
use Rattle.resolve_outputs.specs.Entries.{dropped_at, additive_note}
use Rattle.resolve_statements.specs.Tallies.{notes_from}
use Rattle.resolve_statements.proofs.Adding.{rest-append}
use Rattle.resolve_settling.specs.Stages.{grounded}

module _ (c : Context) (bs : List Brought) where
  pub statements-many : length (outcome c bs).statements ≡ length (gather staying bs) + length (groups (merged bs))
  unfolding ground
  statements-many =
      length-append (gather staying bs) (ground_effects c (merged bs))
      ∙ ap (λ (n : ℕ). length (gather staying bs) + n) (length-map (groups (merged bs)) (λ g. ground_covariate c g (forms_in (merged bs) g)))

  pub text_pieces :
      ground_text (outcome c bs) ≡ rest_of 0 (gather staying bs) ++ rest_of (0 + length (gather staying bs)) (ground_effects c (merged bs))
  unfolding ground
  text_pieces =
      canonical_pieces (gather staying bs ++ ground_effects c (merged bs)) ∙ rest-append 0 (gather staying bs) (ground_effects c (merged bs))

-- Notes.

dropped-notes : (i : ℕ) (bs : List Brought) → map note_numbers (dropped_from i bs) ≡ map dropped_at (notes_from i bs)
dropped-notes i [] = refl
dropped-notes i (defining ∷ bs) = dropped-notes (suc i) bs
dropped-notes i (dropped ∷ bs) = ap (λ (l : List (List ℕ)). dropped_at i ∷ l) (dropped-notes (suc i) bs)
dropped-notes i (stays f ∷ bs) = dropped-notes (suc i) bs
dropped-notes i (brings x es ∷ bs) = dropped-notes (suc i) bs

additive_note_lem : (es : List Effect) → map note_numbers (additive es) ≡ additive_note (any (λ e. eqb e.operator 1) es)
additive_note_lem es = by_test (any (λ e. eqb e.operator 1) es)
  where
    by_test : (t : Bool) → map note_numbers (cond t (record { reason = 1; index = 0 } ∷ []) []) ≡ additive_note t
    by_test true = refl
    by_test false = refl

pub notes-are : (c : Context) (bs : List Brought)
    → map note_numbers (outcome c bs).notes ≡ map dropped_at (notes_from 0 bs) ++ additive_note (any (λ e. eqb e.operator 1) (merged bs))
notes-are c bs =
    map-append note_numbers (dropped_from 0 bs) (additive (merged bs))
    ∙ ap₂ (λ (x y : List (List ℕ)). x ++ y) (dropped-notes 0 bs) (additive_note_lem (merged bs))

-- The faults.

module _ (c : Context) (bs : List Brought) where
  abbrev statement_count : ℕ
  statement_count = length (outcome c bs).statements

  abbrev text_length : ℕ
  text_length = length (ground_text (outcome c bs))

  pub many-grounded : 256 < length (outcome c bs).statements → grounded c bs ≡ refused 18 0
  unfolding grounded
  many-grounded h =
      ap (λ (t : Bool). cond t (refused too_large 0) (up_to 16384 text_length (accepted (outcome c bs)))) (lt-ltb 256 statement_count h)

  module _ (few : length (outcome c bs).statements ≤ 256) where
    few-grounded : grounded c bs ≡ up_to 16384 text_length (accepted (outcome c bs))
    unfolding grounded
    few-grounded =
        ap (λ (t : Bool). cond t (refused too_large 0) (up_to 16384 text_length (accepted (outcome c bs)))) (le-ltb 256 statement_count few)

    pub long-grounded : 16384 < length (ground_text (outcome c bs)) → grounded c bs ≡ refused 18 0
    long-grounded h =
        few-grounded ∙ ap (λ (t : Bool). cond t (refused too_large 0) (accepted (outcome c bs))) (lt-ltb 16384 text_length h)

    pub fine-grounded : length (ground_text (outcome c bs)) ≤ 16384 → grounded c bs ≡ accepted (outcome c bs)
    fine-grounded h =
        few-grounded ∙ ap (λ (t : Bool). cond t (refused too_large 0) (accepted (outcome c bs))) (le-ltb 16384 text_length h)

  abbrev later : Answer Resolved
  later = at_most_once forced_twice (forced_again bs) (grounded c bs)

  staged : merge_and_ground c bs ≡ up_to 2048 (length (gather effects_in bs)) later
  unfolding merge_and_ground grounded
  staged = refl

  pub over-merged : 2048 < length (gather effects_in bs) → merge_and_ground c bs ≡ refused 18 0
  over-merged h = staged ∙ ap (λ (t : Bool). cond t (refused too_large 0) later) (lt-ltb 2048 (length (gather effects_in bs)) h)

  module _ (few : length (gather effects_in bs) ≤ 2048) where
    within : merge_and_ground c bs ≡ later
    within = staged ∙ ap (λ (t : Bool). cond t (refused too_large 0) later) (le-ltb 2048 (length (gather effects_in bs)) few)

    pub forced-merged : (i : ℕ) → forced_again bs ≡ some i → merge_and_ground c bs ≡ refused 17 i
    forced-merged i e = within ∙ ap (λ (o : Option ℕ). at_most_once forced_twice o (grounded c bs)) e

    pub peace-merged : forced_again bs ≡ none → merge_and_ground c bs ≡ grounded c bs
    peace-merged e = within ∙ ap (λ (o : Option ℕ). at_most_once forced_twice o (grounded c bs)) e

-- what merging answers tells whether a pair is forced again
pub forced_told : (bs : List Brought) (i : ℕ) → refused forced_twice i ≡ at_most_once forced_twice (forced_again bs) (accepted (merged bs)) → forced_again bs ≡ some i
forced_told bs i e = by-case (forced_again bs) e
  where
    by-case : (o : Option ℕ) → refused forced_twice i ≡ at_most_once forced_twice o (accepted (merged bs)) → o ≡ some i
    by-case none h = let z : ◌≡◌ {A = ℕ} 0 1 = cc in absurd (omega arith)
    by-case (some j) h = let z : i ≡ j = cc in ap some (sym z)

pub record Unforced (bs : List Brought) (es : List Effect) : Type 0 where
  pub peace : forced_again bs ≡ none
  pub are : es ≡ merged bs

pub merged-told : (bs : List Brought) (es : List Effect) → accepted es ≡ at_most_once forced_twice (forced_again bs) (accepted (merged bs)) → Unforced bs es
merged-told bs es e = by-case (forced_again bs) refl e
  where
    by-case : (o : Option ℕ) → forced_again bs ≡ o → accepted es ≡ at_most_once forced_twice o (accepted (merged bs)) → Unforced bs es
    by-case none p h = let z : es ≡ merged bs = cc in record { peace = p; are = z }
    by-case (some j) p h = let z : ◌≡◌ {A = ℕ} 0 1 = cc in absurd (omega arith)

-- how many terms there are
pub terms-many : (i : ℕ) (bs : List Brought) → length (terms_from i bs) ≡ length (gather effects_in bs)
terms-many i [] = refl
terms-many i (defining ∷ bs) = terms-many (suc i) bs
terms-many i (dropped ∷ bs) = terms-many (suc i) bs
terms-many i (stays f ∷ bs) = terms-many (suc i) bs
terms-many i (brings x es ∷ bs) =
    length-append (map (term i x) es) (terms_from (suc i) bs)
    ∙ ap₂ (λ (m n : ℕ). m + n) (length-map es (term i x)) (terms-many (suc i) bs)
    ∙ sym (length-append es (gather effects_in bs))

-- a merged effect has a parameter and a covariate of the context
pub merged-entered : (c : Context) (look : Meaning) (ss : List Statement) (bs : List Brought)
    → each_from (bring c look) 0 ss ≡ accepted bs
    → forced_again bs ≡ none
    → All (Entered c) (merged bs)
merged-entered c look ss bs e peace =
    all_weaker (λ x k. entered x k.0) (merged-fit c bs (gives_accepted (all-stand c look 0 ss) e) peace).known
  where
    entered : (x : Effect) → Written c (group_of x) → Entered c x
    entered x w =
        (place-below _ c.parameters x.parameter w.parameter-first, place-below _ (covariates c) x.covariate w.covariate-first)
