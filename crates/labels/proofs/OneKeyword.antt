-- The one keyword that a word can be: a word that is a keyword has its length and its second letter, and these tell the keyword's place.
-- Assumes nothing.
use mathlib.Core.Path.{◌≡◌, refl, sym, ap, ◌∙◌}
use mathlib.Core.Bool.{Bool, true, false, cond, ◌&&◌, false≢true}
use mathlib.Core.List.{List, []}
use mathlib.Core.Option.{Option, some, none}
use Prim.Native.Nat.{ℕ, ◌≤◌, ◌<◌}
use native.Mathlib.Nat.{zero-add}
use native.Mathlib.Omega.{arith}
use lib.Dec.{eqb, leb}
use lib.ListN.{length, get_or, length-map, get_or-map}
use borrow.Author.Tests.{eqb-true, leb-true}
use Rattle.text.specs.Bytes.{is, every, count_up}
use Rattle.text.proofs.Tests.{halves}
use Rattle.text.proofs.Lists.{count_up-every}
use Rattle.labels.specs.Label.{keywords}
use Rattle.labels.specs.Word.{lower, same_word, find}
use Rattle.labels.specs.Likely.{likely_place}
use Rattle.labels.proofs.Words.{same-lower}
use Rattle.labels.proofs.Finding.{found_at}
use Rattle.labels.proofs.Distinct.{found, keywords-distinct}

-- the place that a word's length and second letter tell
abbrev pub likely_of : List ℕ → ℕ
likely_of w = likely_place (length w) (lower (get_or w 1 0))

-- words that are the same have the same length and second letter
same_length : (v w : List ℕ) → same_word v w ≡ true → length v ≡ length w
same_length v w h = sym (length-map v lower) ∙ ap length (same-lower v w h) ∙ length-map w lower

same_second : (v w : List ℕ) → same_word v w ≡ true → lower (get_or v 1 0) ≡ lower (get_or w 1 0)
same_second v w h =
    sym (get_or-map lower v 1 0) ∙ ap (λ (l : List ℕ). get_or l 1 0) (same-lower v w h) ∙ get_or-map lower w 1 0

-- a keyword has three letters or more, and is the likely one for its length and second letter
abbrev is_likely : ℕ → Bool
is_likely i = leb 3 (length (get_or keywords i [])) && eqb (likely_of (get_or keywords i [])) i

keywords_likely : every is_likely (count_up 0 (length keywords)) ≡ true
unfolding likely_place keywords
keywords_likely = refl

-- a word that is found among the keywords has three letters or more, and is the likely one
found_likely : (w : List ℕ) (i : ℕ) → find w keywords ≡ some i
    → (3 ≤ length w) × (likely_of w ≡ i) × (same_word w (get_or keywords i []) ≡ true)
found_likely w i e =
    let f = found_at w keywords i e in
    let r =
    halves (leb 3 (length (get_or keywords i []))) (eqb (likely_of (get_or keywords i [])) i)
    (rw (zero-add i) at (count_up-every is_likely 0 (length keywords) i keywords_likely f.within)) in
    let n = same_length w (get_or keywords i []) f.same in
    let b = same_second w (get_or keywords i []) f.same in
    (omega (arith, n, leb-true 3 (length (get_or keywords i [])) r.0), rw (n, b) (eqb-true _ _ r.1), f.same)

-- what of two places is within a bound
either : {m a b : ℕ} (t : Bool) → a < m → b < m → cond t a b < m
either true p q = p
either false p q = q

-- the likely place is that of a keyword
pub likely_within : (n b : ℕ) → likely_place n b < length keywords
unfolding likely_place keywords
likely_within n b =
    either (eqb n 3) (either (is "i" b) (omega arith) (either (is "o" b) (omega arith) (omega arith)))
    (either (eqb n 7) (omega arith)
    (either (eqb n 8) (omega arith)
    (either (eqb n 9) (either (is "o" b) (omega arith) (omega arith))
    (either (eqb n 10) (either (is "b" b) (omega arith) (either (is "f" b) (omega arith) (either (is "e" b) (omega arith) (omega arith))))
    (either (eqb n 11) (either (is "l" b) (omega arith) (omega arith))
    (either (eqb n 12) (omega arith) (omega arith)))))))

-- where no place can be found, none is
no_place : (o : Option ℕ) → ((i : ℕ) → o ≡ some i → ⊥) → o ≡ none
no_place none n = refl
no_place (some i) n = absurd (n i refl)

-- a word of less than three letters is no keyword
pub short_none : (w : List ℕ) → length w < 3 → find w keywords ≡ none
short_none w h = no_place (find w keywords) (λ i e. omega (arith, (found_likely w i e).0))

-- a word that is the likely keyword is found there
pub likely_some : (w : List ℕ) → same_word w (get_or keywords (likely_of w) []) ≡ true → find w keywords ≡ some (likely_of w)
likely_some w s = found w keywords (likely_of w) keywords-distinct (likely_within (length w) (lower (get_or w 1 0))) s

-- a word that is not the likely keyword is none
pub likely_none : (w : List ℕ) → same_word w (get_or keywords (likely_of w) []) ≡ false → find w keywords ≡ none
likely_none w s =
    no_place (find w keywords)
    (λ i e.
    let f = found_likely w i e in
    false≢true (sym s ∙ rw f.1 f.2))
