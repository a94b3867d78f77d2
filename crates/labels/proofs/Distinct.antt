-- Labels that are distinct ignoring case are found at their own places.
-- Assumes nothing.
use mathlib.Core.Path.{◌≡◌, refl}
use mathlib.Core.Bool.{true, false, false≢true}
use mathlib.Core.List.{List, [], ◌∷◌}
use mathlib.Core.Option.{Option, some}
use Prim.Native.Nat.{ℕ, zero, suc, ◌<◌}
use native.Mathlib.Nat.{le_of_suc-le-suc, not-suc-le-zero}
use lib.ListN.{length, get_or}
use Rattle.text.proofs.Tests.{halves, refuted}
use Rattle.labels.specs.declared.Family.{Family}
use Rattle.labels.specs.Label.{labels_of, keywords}
use Rattle.labels.specs.Word.{same_word, find, distinct}
use Rattle.text.specs.Lists.{absent}
use Rattle.labels.proofs.Families.{by_family}
use Rattle.labels.proofs.Words.{same_self, same_sym, same_trans}

-- a word that is one of the rest is not the first label, where that is not in the rest
not_first : (w l x : List ℕ) (o : Option ℕ) (i : ℕ) → absent o ≡ true → (same_word l x ≡ true → o ≡ some i) → same_word w x ≡ true → same_word w l ≡ false
not_first w l x o i a f s =
    refuted (same_word w l)
    (λ e. false≢true (rw (f (same_trans l w x (same_sym w l e) s)) at a))

-- a word that is the label at a place is found at that place
pub found : (w : List ℕ) (ls : List (List ℕ)) (i : ℕ) → distinct ls ≡ true → i < length ls → same_word w (get_or ls i []) ≡ true → find w ls ≡ some i
unfolding find distinct
found w [] i d h s = absurd (not-suc-le-zero h)
found w (l ∷ ls) zero d h s = simp s
found w (l ∷ ls) (suc i) d h s =
    let p = halves (absent (find l ls)) (distinct ls) d in
    let within = le_of_suc-le-suc h in
    let other = not_first w l (get_or ls i []) (find l ls) i p.0 (found l ls i p.1 within) s in
    simp (other, found w ls i p.1 within s)

-- a label is found at its place
pub own-place : (ls : List (List ℕ)) (i : ℕ) → distinct ls ≡ true → i < length ls → find (get_or ls i []) ls ≡ some i
own-place ls i d h = found (get_or ls i []) ls i d h (same_self (get_or ls i []))

pub labels_distinct : (f : Family) → distinct (labels_of f) ≡ true
unfolding distinct find same_word labels_of
labels_distinct = by_family (λ f. distinct (labels_of f)) (λ f. true) refl

pub keywords-distinct : distinct keywords ≡ true
unfolding distinct find same_word keywords
keywords-distinct = refl
