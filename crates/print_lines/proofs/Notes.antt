-- Lines of notes: the line of an offset, parts of a text, why a statement is dropped, how long a line can be, and one more of them.
-- Assumes nothing.
use mathlib.Core.Path.{◌≡◌, refl, ◌∙◌, ap, sym}
use mathlib.Core.Bool.{Bool, true, false, cond}
use mathlib.Core.List.{List, [], ◌∷◌, ◌++◌, map, append-nil}
use Prim.Native.Nat.{ℕ, zero, suc, ◌+◌, ◌-◌, ◌≤◌, ◌<◌, min}
use native.Mathlib.Numerals.{add-one}
use native.Mathlib.Omega.{arith}
use borrow.Author.Tests.{eq-eqb, ne_eqb}
use lib.Dec.{eqb}
use lib.ListN.{length, take, drop, get_or, length-append, length-drop}
use lib.Seq.{take-suc, take_all}
use Rattle.std.proofs.lemmas.List.{take_min, length-take}
use Rattle.text.specs.Bytes.{bytes, is}
use Rattle.text.specs.Lists.{keep, gather}
use Rattle.text.proofs.Appended.{keep_append, map-append, gather_append}
use Rattle.labels.specs.Word.{same_word}
use Rattle.resolving.specs.Resolve.{Note}
use Rattle.lines.specs.Stretches.{Stretch, stretch_at, word_at, part, line_at}
use Rattle.lines.specs.Notes.{reason_for, index_words, dropped_line, additive_line, note_line, note_lines_behind}
use Rattle.print_lines.specs.Given.{note_in}
use Rattle.print_lines.proofs.Digits.{digits_few}

no-bytes : (l : List ℕ) → length l ≤ 0 → l ≡ []
no-bytes [] h = refl
no-bytes (x ∷ xs) h = absurd (omega arith)

-- the bytes from one offset to another, as far as there are any
pub part_none : (s : List ℕ) (from to : ℕ) → min to (length s) ≤ from → part s from to ≡ []
unfolding part
part_none s from to h = no-bytes _ (omega (arith, length-take (to - from) (drop from s), length-drop from s))

pub part_reached : (s : List ℕ) (from to : ℕ) → take (min to (length s) - from) (drop from s) ≡ part s from to
unfolding part
part_reached s from to =
    let e : min to (length s) - from ≡ min (to - from) (length (drop from s)) = omega (arith, length-drop from s) in
    rw e (take_min (to - from) (drop from s))

-- the line of an offset
abbrev pub lines_to : List ℕ → ℕ → ℕ
lines_to s i = suc (length (keep (is "\n") (take i s)))

pub line-next : (s : List ℕ) (i x : ℕ) → x ≡ get_or s i x → i < length s → lines_to s (i + 1) ≡ cond (is "\n" x) (lines_to s i + 1) (lines_to s i)
line-next s i x e h =
    rw (add-one, take-suc s i x h, sym e, keep_append (is "\n") (take i s) (x ∷ [])) (by_test (is "\n" x))
  where
    by_test : (t : Bool) → suc (length (keep (is "\n") (take i s) ++ cond t (x ∷ []) [])) ≡ cond t (lines_to s i + 1) (lines_to s i)
    by_test true = simp length-append (omega arith)
    by_test false = simp append-nil

pub lines-all : (s : List ℕ) (o : ℕ) → lines_to (take (min o (length s)) s) (length (take (min o (length s)) s)) ≡ line_at s o
unfolding line_at
lines-all s o =
    let t = take (min o (length s)) s in
    ap (λ (l : List ℕ). suc (length (keep (is "\n") l))) (take_all (length t) t (omega arith) ∙ take_min o s)

kept-few : (p : ℕ → Bool) (l : List ℕ) → length (keep p l) ≤ length l
kept-few p [] = omega arith
kept-few p (x ∷ xs) = by_test (p x) (kept-few p xs)
  where
    by_test : (t : Bool) → length (keep p xs) ≤ length xs → length (cond t (x ∷ keep p xs) (keep p xs)) ≤ suc (length xs)
    by_test true h = omega arith
    by_test false h = omega arith

pub lines-few : (s : List ℕ) (i : ℕ) → i ≤ length s → lines_to s i ≤ i + 1
lines-few s i h = omega (arith, kept-few (is "\n") (take i s), length-take i s)

line_small : (s : List ℕ) (o : ℕ) → line_at s o ≤ length s + 1
unfolding line_at
line_small s o = omega (arith, kept-few (is "\n") (take o s), length-take o s)

-- why a statement is dropped
pub of_covariate : (k : List ℕ) → same_word k (bytes "COVARIATE") ≡ true
    → reason_for k ≡ bytes "dropped, for its parameters or its covariates stand for nothing in this model: "
unfolding reason_for
of_covariate k e = rw e

pub of_covariance : (k : List ℕ) → same_word k (bytes "COVARIATE") ≡ false → same_word k (bytes "COVARIANCE") ≡ true
    → reason_for k ≡ bytes "dropped, for it has fewer than two parameters in this model: "
unfolding reason_for
of_covariance k e f = rw (e, f)

pub of_others : (k : List ℕ) → same_word k (bytes "COVARIATE") ≡ false → same_word k (bytes "COVARIANCE") ≡ false
    → reason_for k ≡ bytes "dropped, for its parameters stand for nothing in this model: "
unfolding reason_for
of_others k e f = rw (e, f)

reason-short : (k : List ℕ) → length (reason_for k) ≤ 80
unfolding reason_for
reason-short k = by_test (same_word k (bytes "COVARIATE")) (same_word k (bytes "COVARIANCE"))
  where
    by_test : (t u : Bool)
        → length
        (cond t (bytes "dropped, for its parameters or its covariates stand for nothing in this model: ")
        (cond u (bytes "dropped, for it has fewer than two parameters in this model: ")
        (bytes "dropped, for its parameters stand for nothing in this model: ")))
        ≤ 80
    by_test true u = omega arith
    by_test false true = omega arith
    by_test false false = omega arith

part-short : (s : List ℕ) (from to : ℕ) → length (part s from to) ≤ length s
unfolding part
part-short s from to = omega (arith, taken-few (to - from) (drop from s), length-drop from s)
  where
    taken-few : (n : ℕ) (l : List ℕ) → length (take n l) ≤ length l
    taken-few zero l = omega arith
    taken-few (suc n) [] = omega arith
    taken-few (suc n) (x ∷ xs) = omega (arith, taken-few n xs)

-- a note by its reason
pub dropped_note : (s : List ℕ) (n : Note) → n.reason ≡ 0 → note_line s n ≡ dropped_line s n.index (stretch_at s n.index)
unfolding note_line
dropped_note s n e = rw (eq-eqb n.reason 0 e)

pub additive_note_lem : (s : List ℕ) (n : Note) → (n.reason ≡ 0 → ⊥) → note_line s n ≡ additive_line
unfolding note_line
additive_note_lem s n e = rw (ne_eqb n.reason 0 e)

-- a line of a text of at most 16,384 bytes
module _ (s : List ℕ) (short : length s ≤ 16384) where
  dropped-short : (i : ℕ) (x : Stretch) → length (dropped_line s i x) ≤ 20000 + i
  unfolding dropped_line index_words
  dropped-short i x =
      simp length-append
      (omega (
        arith,
        digits_few i,
        digits_few (line_at s x.start),
        line_small s x.start,
        reason-short (word_at s x.start),
        part-short s x.start x.end,
      ))

  pub note_short : (n : Note) → length (note_line s n) ≤ 20000 + n.index
  unfolding note_line additive_line
  note_short n = by_test (eqb n.reason 0)
    where
      by_test : (t : Bool) → length (cond t (dropped_line s n.index (stretch_at s n.index)) additive_line) ≤ 20000 + n.index
      by_test true = dropped-short n.index (stretch_at s n.index)
      by_test false = omega arith

-- one more note
pub one_note_more : (w s : List ℕ) (ns : List (List ℕ)) (i : ℕ) → i < length ns
    → note_lines_behind w s (map note_in (take (i + 1) ns)) ≡ note_lines_behind w s (map note_in (take i ns)) ++ (w ++ note_line s (note_in (get_or ns i [])))
unfolding note_lines_behind
one_note_more w s ns i h =
    rw (add-one, take-suc ns i [] h, map-append note_in (take i ns) (get_or ns i [] ∷ []))
    (gather_append (λ n. w ++ note_line s n) (map note_in (take i ns)) (note_in (get_or ns i []) ∷ [])
    ∙ ap (λ (l : List ℕ). gather (λ n. w ++ note_line s n) (map note_in (take i ns)) ++ l) (append-nil (w ++ note_line s (note_in (get_or ns i [])))))
