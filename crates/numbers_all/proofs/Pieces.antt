-- The numbers of all statements are those that Statement gives, one statement after the other, each behind how many they are; and there are at
-- most two for each byte of the text, so that a buffer of so many always has room.
-- Assumes nothing.
use Prim.Native.Nat.{ℕ, zero, suc, ◌+◌, ◌*◌, ◌≤◌, ◌<◌}
use native.Mathlib.Nat.{le_of_suc-le-suc, not-suc-le-zero, zero-add}
use native.Mathlib.Omega.{arith}
use mathlib.Core.Path.{◌≡◌, refl, ◌∙◌, ap, sym, subst}
use mathlib.Core.Bool.{Bool, cond}
use mathlib.Core.List.{List, [], ◌∷◌, ◌++◌}
use mathlib.Core.Option.{Option, some}
use borrow.Author.Tests.{le-ltb}
use lib.ListN.{length, take, drop, get_elem?, length-append}
use lib.Seq.{take_at, drop_at, drop-drop}
use Rattle.reading.specs.Statement.{Statement}
use Rattle.reading.specs.Answer.{Answer, accepted, refused}
use Rattle.reading.specs.Read.{read_text}
use Rattle.reading.proofs.Answers.{not-refused}
use Rattle.canonical.specs.Print.{fitting}
use Rattle.canonical.specs.Numbers.{numbers_of, counted_numbers, all_numbers_of, all_numbered, all_numbering}
use Rattle.canonical_laws.proofs.Rooms.{all-numbers-room}
use Rattle.reading.specs.Calls.{counting, counted, chosen, nth_of}
use Rattle.numbers_statement.specs.Answers.{numbered, numbering}
use Rattle.numbers_all.specs.Pieces.{Piece, Pieces}

-- where the numbers of the statement at an index start
start_of : List Statement → ℕ → ℕ
start_of ss zero = 0
start_of [] (suc i) = 0
start_of (s ∷ ss) (suc i) = length (counted_numbers s) + start_of ss i

-- the statement at an index, its numbers and where they end
record Here (ss : List Statement) (i : ℕ) : Type 0 where
  pub statement : Statement
  pub is : get_elem? ss i ≡ some statement
  pub numbers : take (suc (length (numbers_of statement))) (drop (start_of ss i) (all_numbers_of ss)) ≡ counted_numbers statement
  pub next : start_of ss (suc i) ≡ start_of ss i + suc (length (numbers_of statement))

one-here : (ss : List Statement) (i : ℕ) → i < length ss → Here ss i
unfolding start_of all_numbers_of
one-here [] i h = absurd (not-suc-le-zero h)
one-here (s ∷ ss) zero h = record {
  statement = s;
  is = refl;
  numbers = take_at (counted_numbers s) (all_numbers_of ss) (suc (length (numbers_of s))) refl;
  next = omega arith;
}
one-here (s ∷ ss) (suc i) h =
    let r = one-here ss i (le_of_suc-le-suc h) in
    let behind : drop (length (counted_numbers s) + start_of ss i) (counted_numbers s ++ all_numbers_of ss) ≡ drop (start_of ss i) (all_numbers_of ss) =
    sym (drop-drop (start_of ss i) (length (counted_numbers s)) (counted_numbers s ++ all_numbers_of ss))
    ∙ ap (drop (start_of ss i)) (drop_at (counted_numbers s) (all_numbers_of ss) (length (counted_numbers s)) refl) in
    record {
      statement = r.statement;
      is = r.is;
      numbers = ap (take (suc (length (numbers_of r.statement)))) behind ∙ r.numbers;
      next = omega (arith, r.next);
    }

starts-last : (ss : List Statement) → start_of ss (length ss) ≡ length (all_numbers_of ss)
unfolding start_of all_numbers_of
starts-last [] = refl
starts-last (s ∷ ss) = omega (arith, starts-last ss, length-append (counted_numbers s) (all_numbers_of ss))

-- Statement by statement.
pub statements_pieces :
    (limit : ℕ) (text : List ℕ) (ss : List Statement) → read_text limit text ≡ accepted ss → Pieces limit text (all_numbers_of ss) (length ss)
unfolding start_of
statements_pieces limit text ss e = record {
  start = start_of ss;
  first = refl;
  last = starts-last ss;
  piece = λ i h.
      let r = one-here ss i h in
      record {
        numbers = numbers_of r.statement;
        same =
            ap (λ (a : Answer (List Statement)). numbered (nth_of i a)) e
            ∙ ap (λ (o : Option Statement). numbered (chosen i o)) r.is;
        here = r.numbers;
        next = r.next;
      };
}

-- The statements of a text that Count accepts are so many, and Statement gives the numbers of each.
pub all_pieces :
    (limit : ℕ) (text : List ℕ) (n : ℕ) (ns : List ℕ)
    → counting limit text ≡ accepted n
    → all_numbering limit text ≡ accepted ns
    → Pieces limit text ns n
unfolding all_numbering
all_pieces limit text n ns c a = go (read_text limit text) refl c a
  where
    go : (r : Answer (List Statement)) → read_text limit text ≡ r → counted 0 r ≡ accepted n → all_numbered r ≡ accepted ns → Pieces limit text ns n
    go (refused k p) e c a = absurd (not-refused c)
    go (accepted ss) e c a =
        let many : length ss ≡ n = sym (zero-add (length ss)) ∙ cc in
        let are : all_numbers_of ss ≡ ns = cc in
        subst (λ (m : ℕ). Pieces limit text ns m) many
        (subst (λ (l : List ℕ). Pieces limit text l (length ss)) are (statements_pieces limit text ss e))

-- A buffer of two numbers for each byte of the text always has room.
pub double_room : (limit room : ℕ) (text : List ℕ) → 2 * length text ≤ room → fitting room (all_numbering limit text) ≡ all_numbering limit text
unfolding all_numbering
double_room limit room text h = go (read_text limit text) refl
  where
    go : (r : Answer (List Statement)) → read_text limit text ≡ r → fitting room (all_numbered r) ≡ all_numbered r
    go (refused k p) e = refl
    go (accepted ss) e =
        ap (λ (b : Bool). cond b (refused 19 0) (accepted (all_numbers_of ss)))
        (le-ltb room (length (all_numbers_of ss)) (omega (arith, all-numbers-room limit text ss e)))
