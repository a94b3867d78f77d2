-- What Count and Statement answer, by what the text is read as. A statement that was found at an index is one of those that the text is read as, so
-- what holds of all of them holds of it.
-- Assumes nothing.
use mathlib.Core.Path.{◌≡◌, refl, ◌∙◌, ap, sym}
use mathlib.Core.Bool.{Bool, true}
use mathlib.Core.List.{List, [], ◌∷◌}
use mathlib.Core.Option.{Option, some, none, none-ne-some}
use Prim.Native.Nat.{ℕ, zero, suc}
use native.Mathlib.Nat.{add-suc, suc-add}
use native.Mathlib.Omega.{arith}
use lib.ListN.{length, get_elem?}
use Rattle.text.specs.Lists.{all}
use Rattle.text.proofs.Tests.{and_left, and_right}
use Rattle.reading.specs.Statement.{Statement}
use Rattle.reading.specs.Answer.{Answer, accepted, refused}
use Rattle.reading.specs.Read.{prepend, read_text}
use Rattle.reading.specs.Calls.{counted, chosen, nth_of}
use Rattle.reading.proofs.Answers.{not-refused, value_of}
use Rattle.reading_laws.specs.WellFormed.{well_formed}
use Rattle.reading_laws.specs.Spelled.{as_read}
use Rattle.reading_laws.proofs.WellRead.{text-well_formed}
use Rattle.reading_laws.proofs.Spelled.{text-as_read}

-- a statement in front of what is accepted is the first of it
pub in_front :
    (s : Statement) (a : Answer (List Statement)) (l : List Statement)
    → prepend s a ≡ accepted l
    → (more : List Statement) × (a ≡ accepted more) × (l ≡ s ∷ more)
in_front s (accepted ss) l e = (ss, refl, cc)
in_front s (refused k p) l e = absurd (let z : ◌≡◌ {A = ℕ} 0 1 = cc in omega arith)

-- one statement more is one more to count
pub counted-more : (n : ℕ) (s : Statement) (a : Answer (List Statement)) → counted n (prepend s a) ≡ counted (suc n) a
counted-more n s (accepted ss) = ap accepted (add-suc n (length ss) ∙ sym (suc-add n (length ss)))
counted-more n s (refused k p) = refl

-- a count is one of a text that is accepted
pub counted-accepted :
    (n m : ℕ) (a : Answer (List Statement)) → counted n a ≡ accepted m → (ss : List Statement) × (a ≡ accepted ss)
counted-accepted n m (accepted ss) e = (ss, refl)
counted-accepted n m (refused k p) e = absurd (let z : ◌≡◌ {A = ℕ} 0 1 = cc in omega arith)

-- a refusal stays one
pub counted-refused : (n k p : ℕ) (a : Answer (List Statement)) → counted n a ≡ refused k p → a ≡ refused k p
counted-refused n k p (accepted ss) e = absurd (let z : ◌≡◌ {A = ℕ} 0 1 = cc in omega arith)
counted-refused n k p (refused k' p') e = cc

some_inj : {A : Type 0} {x y : A} → ◌≡◌ {A = Option A} (some x) (some y) → x ≡ y
some_inj e = cc

-- what all of a list pass, the one at an index passes
at_index_lem : {A : Type 0} (p : A → Bool) (xs : List A) (i : ℕ) (x : A) → all p xs ≡ true → some x ≡ get_elem? xs i → p x ≡ true
at_index_lem p [] i x e h = absurd (none-ne-some x (sym h))
at_index_lem p (y ∷ ys) zero x e h = ap p (some_inj h) ∙ and_left (p y) (all p ys) e
at_index_lem p (y ∷ ys) (suc i) x e h = at_index_lem p ys i x (and_right (p y) (all p ys) e) h

-- What all statements of a text pass, the one that was found at an index passes.
pub found_passes :
    (p : Statement → Bool) (i : ℕ) (x : Statement) (a : Answer (List Statement))
    → ((ss : List Statement) → a ≡ accepted ss → all p ss ≡ true)
    → accepted x ≡ nth_of i a
    → p x ≡ true
found_passes p i x (refused n q) h e = absurd (not-refused (sym e))
found_passes p i x (accepted ss) h e = go (get_elem? ss i) refl e
  where
    go : (o : Option Statement) → o ≡ get_elem? ss i → accepted x ≡ chosen i o → p x ≡ true
    go none g e = absurd (not-refused (sym e))
    go (some y) g e = at_index_lem p ss i x (h ss refl) (ap some (value_of e) ∙ g)

-- It is well formed, and its names end before the text does.
pub found_well : (limit : ℕ) (s : List ℕ) (i : ℕ) (x : Statement) → accepted x ≡ nth_of i (read_text limit s) → well_formed limit x ≡ true
found_well limit s i x e = found_passes (well_formed limit) i x (read_text limit s) (text-well_formed limit s) e

pub found_as-read :
    (limit : ℕ) (s : List ℕ) (i : ℕ) (x : Statement) → accepted x ≡ nth_of i (read_text limit s) → as_read limit (length s) x ≡ true
found_as-read limit s i x e = found_passes (as_read limit (length s)) i x (read_text limit s) (text-as_read limit s) e
