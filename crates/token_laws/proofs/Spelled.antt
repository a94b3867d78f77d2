-- The tokens of bytes that are spelled, with what may follow them.
-- Assumes nothing.
use mathlib.Core.Path.{◌≡◌, refl, ◌∙◌, ap, sym, subst}
use mathlib.Core.Bool.{Bool, true, false, cond, not, false≢true, ◌||◌}
use mathlib.Core.List.{List, [], ◌∷◌, ◌++◌, append-nil}
use Prim.Native.Nat.{ℕ, suc, ◌+◌}
use native.Mathlib.Omega.{arith}
use borrow.Author.Tests.{eqb-true, not-true}
use lib.Dec.{eqb}
use lib.ListN.{length, take}
use lib.Seq.{take-append_seam, drop-append_seam}
use Rattle.text.specs.Bytes.{bytes, is, among, every, span}
use Rattle.tokens.specs.Class.{Class, semicolon, mark, dot, digit, letter, class_of, class_number, is_a}
use Rattle.tokens.specs.Token.{Shape, Tokens, finish, ◌▸◌, range, width}
use Rattle.tokens.specs.Token as shapes
use Rattle.tokens.specs.Lex.{Front, taken, in_word, number_rest, dots, front_of, follow, tokens_after, tokens_at, tokens}
use Rattle.tokens.specs.Spelling.{is_word, is_number, is_shape, spell, spell_all, is_mark, apart}
use Rattle.tokens.proofs.Classes.{class_by_number}
use Rattle.tokens.proofs.Steps.{token, passed_by}
use Rattle.token_laws.specs.Join.{placed}
use Rattle.token_laws.specs.Follow.{starts_with, more_number, may_follow}
use Rattle.text.specs.Lists.{all}
use Rattle.text.proofs.Tests.{and_left, and_right}
use Rattle.text.proofs.Lists.{every_member}
use Rattle.text.proofs.Passing.{span-every}
use Rattle.token_laws.proofs.Fronts.{span-append, number_append}

-- a token whose bytes are those before the rest
first_of :
    (o b : ℕ) (bs rest : List ℕ) (c : Class) (x : Shape)
    → class_of b ≡ c
    → front_of c b (bs ++ rest) ≡ taken x (length bs)
    → tokens_at o (b ∷ (bs ++ rest)) ≡ token o x ▸ tokens_at (o + suc (length bs)) rest
unfolding tokens_after follow
first_of o b bs rest c x e f =
    let n : suc o + length bs ≡ o + suc (length bs) = omega arith in
    ap (λ (k : Class). follow (front_of k b (bs ++ rest)) o (λ k. tokens_after k (suc o) (bs ++ rest))) e
    ∙ ap (λ (g : Front). follow g o (λ k. tokens_after k (suc o) (bs ++ rest))) f
    ∙ ap (λ (ts : Tokens). token o x ▸ ts)
    (passed_by (length bs) (suc o) (bs ++ rest)
    ∙ ap (tokens_at (suc o + length bs)) (drop-append_seam bs rest)
    ∙ ap (λ (m : ℕ). tokens_at m rest) n
    )

-- as many bytes as there are before the rest
took :
    (shape : List ℕ → Shape) (b n : ℕ) (bs rest : List ℕ)
    → n ≡ length bs → taken (shape (b ∷ take n (bs ++ rest))) n ≡ taken (shape (b ∷ bs)) (length bs)
took shape b n bs rest e =
    ap (λ (m : ℕ). taken (shape (b ∷ take m (bs ++ rest))) m) e
    ∙ ap (λ (l : List ℕ). taken (shape (b ∷ l)) (length bs)) (take-append_seam bs rest)

-- A word before a byte that it does not go on with is one token.
pub word_first :
    (o : ℕ) (w rest : List ℕ)
    → is_word w ≡ true
    → starts_with in_word rest ≡ false
    → tokens_at o (w ++ rest) ≡ record { place = o; shape = shapes.word w } ▸ tokens_at (o + length w) rest
unfolding front_of
word_first o [] rest e f = absurd (false≢true e)
word_first o (b ∷ bs) rest e f =
    first_of o b bs rest letter (shapes.word (b ∷ bs))
    (class_by_number b 9 (eqb-true _ _ (and_left (is_a letter b) (every in_word bs) e)))
    (took shapes.word b (span in_word (bs ++ rest)) bs rest
    (span-append in_word bs rest f ∙ span-every in_word bs (and_right (is_a letter b) (every in_word bs) e)))

-- A number before a text that it does not go on with is one token.
pub number-first :
    (o : ℕ) (w rest : List ℕ)
    → is_number w ≡ true
    → more_number rest ≡ false
    → tokens_at o (w ++ rest) ≡ record { place = o; shape = shapes.number w } ▸ tokens_at (o + length w) rest
unfolding front_of
number-first o [] rest e f = absurd (false≢true e)
number-first o (b ∷ bs) rest e f =
    first_of o b bs rest digit (shapes.number (b ∷ bs))
    (class_by_number b 8 (eqb-true _ _ (and_left (is_a digit b) (eqb (number_rest bs) (length bs)) e)))
    (took shapes.number b (number_rest (bs ++ rest)) bs rest
    (number_append bs rest f ∙ eqb-true _ _ (and_right (is_a digit b) (eqb (number_rest bs) (length bs)) e)))

-- a mark that is no point is one of the marks of one byte
one_byte : (m : ℕ) → is_shape (shapes.mark m) ≡ true → is "." m ≡ false → among "()[],*+?@;" m ≡ true
one_byte m e f = simp f at e

-- A mark of one byte is one token, before anything.
pub mark-first :
    (o m : ℕ) (rest : List ℕ)
    → is_shape (shapes.mark m) ≡ true
    → is "." m ≡ false
    → tokens_at o (m ∷ rest) ≡ record { place = o; shape = shapes.mark m } ▸ tokens_at (o + 1) rest
unfolding front_of class_of
mark-first o m rest e f = go (is_a mark m) refl (every_member (λ b. is_a mark b || is ";" b) (bytes "()[],*+?@;") m refl (one_byte m e f))
  where
    go : (t : Bool) → is_a mark m ≡ t → (t || is ";" m) ≡ true → tokens_at o (m ∷ rest) ≡ token o (shapes.mark m) ▸ tokens_at (o + 1) rest
    go true t h = first_of o m [] rest mark (shapes.mark m) (class_by_number m 2 (eqb-true _ _ t)) refl
    go false t h =
        subst (λ (b : ℕ). tokens_at o (b ∷ rest) ≡ token o (shapes.mark b) ▸ tokens_at (o + 1) rest) (sym (eqb-true m 59 h))
        (first_of o 59 [] rest semicolon (shapes.mark 59) refl refl)

-- Two points are one token, before anything.
pub range-first : (o : ℕ) (rest : List ℕ) → tokens_at o (bytes ".." ++ rest) ≡ record { place = o; shape = range } ▸ tokens_at (o + 2) rest
unfolding front_of class_of dots
range-first o rest = first_of o 46 (46 ∷ []) rest dot range refl refl

-- A token's bytes before what may follow them are that token.
pub shape-first :
    (o : ℕ) (x : Shape) (rest : List ℕ)
    → is_shape x ≡ true
    → may_follow x rest ≡ true
    → tokens_at o (spell x ++ rest) ≡ record { place = o; shape = x } ▸ tokens_at (o + width x) rest
shape-first o (shapes.word w) rest e f = word_first o w rest e (not-true _ f)
shape-first o (shapes.number w) rest e f = number-first o w rest e (not-true _ f)
shape-first o (shapes.mark m) rest e f = go (is "." m) refl
  where
    go :
        (t : Bool)
        → is "." m ≡ t
        → tokens_at o (cond t (m ∷ m ∷ []) (m ∷ []) ++ rest) ≡ token o (shapes.mark m) ▸ tokens_at (o + cond t 2 1) rest
    go true t =
        subst (λ (b : ℕ). tokens_at o (b ∷ b ∷ rest) ≡ token o (shapes.mark b) ▸ tokens_at (o + 2) rest) (sym (eqb-true m 46 t))
        (range-first o rest)
    go false t = mark-first o m rest e t

-- a mark may follow a word and a number
starts : (q : ℕ → Bool) (t : Bool) (m : ℕ) (rest : List ℕ) → starts_with q (cond t (m ∷ m ∷ []) (m ∷ []) ++ rest) ≡ q m
starts q true m rest = refl
starts q false m rest = refl

mark_follows_word : (m : ℕ) (rest : List ℕ) → is_shape (shapes.mark m) ≡ true → not (starts_with in_word (spell (shapes.mark m) ++ rest)) ≡ true
unfolding class_of
mark_follows_word m rest e =
    ap not (starts in_word (is "." m) m rest) ∙ every_member (λ b. not (in_word b)) (bytes ".()[],*+?@;") m refl e

mark_follows_number : (m : ℕ) (rest : List ℕ) → is_shape (shapes.mark m) ≡ true → not (more_number (spell (shapes.mark m) ++ rest)) ≡ true
unfolding class_of
mark_follows_number m rest e = go (is "." m) refl
  where
    go : (t : Bool) → is "." m ≡ t → not (more_number (cond t (m ∷ m ∷ []) (m ∷ []) ++ rest)) ≡ true
    go true t = every_member (λ b. not (more_number (b ∷ b ∷ rest))) (bytes ".()[],*+?@;") m refl e
    go false t = every_member (λ b. not (more_number (b ∷ rest))) (bytes "()[],*+?@;") m refl (one_byte m e t)

-- Where one of two tokens is a mark, the second's bytes may follow the first.
pub apart_follows : (x y : Shape) (rest : List ℕ) → is_shape y ≡ true → (is_mark x || is_mark y) ≡ true → may_follow x (spell y ++ rest) ≡ true
apart_follows (shapes.mark m) y rest e f = refl
apart_follows (shapes.word w) (shapes.mark m) rest e f = mark_follows_word m rest e
apart_follows (shapes.word w) (shapes.word v) rest e f = absurd (false≢true f)
apart_follows (shapes.word w) (shapes.number v) rest e f = absurd (false≢true f)
apart_follows (shapes.number w) (shapes.mark m) rest e f = mark_follows_number m rest e
apart_follows (shapes.number w) (shapes.word v) rest e f = absurd (false≢true f)
apart_follows (shapes.number w) (shapes.number v) rest e f = absurd (false≢true f)

-- The text's end may follow any token.
pub end_follows : (x : Shape) → may_follow x [] ≡ true
end_follows (shapes.word w) = refl
end_follows (shapes.number w) = refl
end_follows (shapes.mark m) = refl

-- The tokens of a text without blanks and comments are those that it is spelled with.
pub tokens-spelled : (o : ℕ) (xs : List Shape) → all is_shape xs ≡ true → apart xs ≡ true → tokens_at o (spell_all xs) ≡ placed o xs
unfolding tokens_after
tokens-spelled o [] e f = refl
tokens-spelled o (x ∷ []) e f = shape-first o x [] (and_left (is_shape x) true e) (end_follows x)
tokens-spelled o (x ∷ y ∷ ys) e f =
    let es : all is_shape (y ∷ ys) ≡ true = and_right (is_shape x) (all is_shape (y ∷ ys)) e in
    shape-first o x (spell_all (y ∷ ys)) (and_left (is_shape x) (all is_shape (y ∷ ys)) e)
    (apart_follows x y (spell_all ys) (and_left (is_shape y) (all is_shape ys) es) (and_left (is_mark x || is_mark y) (apart (y ∷ ys)) f))
    ∙ ap (λ (ts : Tokens). token o x ▸ ts)
    (tokens-spelled (o + width x) (y ∷ ys) es (and_right (is_mark x || is_mark y) (apart (y ∷ ys)) f))

-- A word alone is one token.
pub word-alone : (w : List ℕ) → is_word w ≡ true → tokens w ≡ record { place = 0; shape = shapes.word w } ▸ finish
unfolding tokens_after
word-alone w e = ap tokens (sym (append-nil w)) ∙ word_first 0 w [] e refl

-- A number alone is one token.
pub number-alone : (w : List ℕ) → is_number w ≡ true → tokens w ≡ record { place = 0; shape = shapes.number w } ▸ finish
unfolding tokens_after
number-alone w e = ap tokens (sym (append-nil w)) ∙ number-first 0 w [] e refl

-- a word is no number
pub word_no_number : (w : List ℕ) → is_word w ≡ true → is_number w ≡ false
word_no_number [] h = absurd (false≢true h)
word_no_number (b ∷ bs) h = simp (eqb-true (class_number b) 9 (and_left (is_a letter b) (every in_word bs) h))
