-- The table of classes holds each byte's class number: one law for all 256 entries. And what a class's number tells of the class.
-- Assumes nothing.
use mathlib.Core.Path.{◌≡◌, refl, ◌∙◌, ap, sym}
use mathlib.Core.List.{List, [], ◌∷◌, map}
use mathlib.Core.Bool.{Bool, true, false, cond, not, ◌&&◌, ◌||◌}
use Prim.Native.Nat.{ℕ, ◌<◌, ◌≤◌}
use native.Mathlib.Nat.{zero-add}
use native.Mathlib.Omega.{arith}
use borrow.Author.Tests.{leb-true, leb-false, le-leb, not-true}
use lib.Dec.{eqb, leb}
use lib.ListN.{get_or}
use Rattle.text.specs.Bytes.{bytes, is, among, between, every}
use Rattle.text.proofs.Lists.{agree, every_member, count_up_at}
use Rattle.tokens.specs.Class.{Class, newline, semicolon, mark, dot, blank, hash, other, hyphen, digit, letter, number, class_of, class_number, class_between, class_table}
use Rattle.tokens.specs.Lex.{in_word, in_number, in_comment}

pub table_entry : (b : ℕ) → b < 256 → get_or class_table b 0 ≡ class_number b
unfolding class_table
table_entry b h = count_up_at class_number 0 0 256 b h ∙ ap class_number (zero-add b)

-- the classes, each at its number
abbrev pub classes : List Class
classes = newline ∷ semicolon ∷ mark ∷ dot ∷ blank ∷ hash ∷ other ∷ hyphen ∷ digit ∷ letter ∷ []

abbrev pub of_number : ℕ → Class
of_number n = get_or classes n other

numbered : (k : Class) → k ≡ of_number (number k)
numbered newline = refl
numbered semicolon = refl
numbered mark = refl
numbered dot = refl
numbered blank = refl
numbered hash = refl
numbered other = refl
numbered hyphen = refl
numbered digit = refl
numbered letter = refl

pub class_by_number : (b n : ℕ) → class_number b ≡ n → class_of b ≡ of_number n
class_by_number b n e = numbered (class_of b) ∙ ap of_number e

-- functions that agree on the list of classes agree at every class
by_class : {A : Type 0} (g h : Class → A) → map g classes ≡ map h classes → (k : Class) → g k ≡ h k
by_class g h e k = ap g (numbered k) ∙ agree g h classes other (number k) e (cc) ∙ sym (ap h (numbered k))

-- a function that is one and the same on a range of classes
pub in_range :
    {A : Type 0} (g : Class → A) (lo hi : ℕ) (x : A)
    → map (λ k. cond (leb lo (number k) && leb (number k) hi) x (g k)) classes ≡ map g classes
    → (k : Class) → lo ≤ number k → number k ≤ hi → g k ≡ x
in_range g lo hi x e k l m =
    sym (by_class (λ k. cond (leb lo (number k) && leb (number k) hi) x (g k)) g e k) ∙ simp (le-leb lo (number k) l, le-leb (number k) hi m)

-- the ranges of classes that the lexer's runs are made of
pub word-run : (b : ℕ) → class_between 7 9 b ≡ in_word b
word-run b =
    by_class (λ k. leb 7 (number k) && leb (number k) 9) (λ k. eqb (number k) 9 || eqb (number k) 8 || eqb (number k) 7) refl (class_of b)

pub number-run : (b : ℕ) → class_between 8 8 b ≡ in_number b
number-run b = by_class (λ k. leb 8 (number k) && leb (number k) 8) (λ k. eqb (number k) 8) refl (class_of b)

pub comment_run : (b : ℕ) → class_between 1 9 b ≡ in_comment b
comment_run b = by_class (λ k. leb 1 (number k) && leb (number k) 9) (λ k. not (eqb (number k) 0)) refl (class_of b)

-- a class's number is at most a letter's
pub class_top : (b : ℕ) → leb (class_number b) 9 ≡ true
class_top b = by_class (λ k. leb (number k) 9) (λ k. true) refl (class_of b)

pub class_most : (b : ℕ) → class_number b ≤ 9
class_most b = leb-true (class_number b) 9 (class_top b)

-- a class above the first of a range that is not in it is above the range
pub above_range : (lo hi b : ℕ) → class_between lo hi b ≡ false → lo ≤ class_number b → hi < class_number b
above_range lo hi b e h = leb-false _ hi (simp (le-leb lo (class_number b) h) at e)

-- where the tests for a byte's class come out as a mark, the third has passed
chain :
    (a b c d e f g h i : Bool)
    → cond a newline (cond b semicolon (cond c mark (cond d dot (cond e blank (cond f hash (cond g hyphen (cond h digit (cond i letter other)))))))) ≡ mark
    → c ≡ true
chain true b c d e f g h i k = absurd (omega (arith, ap number k))
chain false true c d e f g h i k = absurd (omega (arith, ap number k))
chain false false true d e f g h i k = refl
chain false false false true e f g h i k = absurd (omega (arith, ap number k))
chain false false false false true f g h i k = absurd (omega (arith, ap number k))
chain false false false false false true g h i k = absurd (omega (arith, ap number k))
chain false false false false false false true h i k = absurd (omega (arith, ap number k))
chain false false false false false false false true i k = absurd (omega (arith, ap number k))
chain false false false false false false false false true k = absurd (omega (arith, ap number k))
chain false false false false false false false false false k = absurd (omega (arith, ap number k))

-- what all the marks pass is passed by a byte of their class
pub each-mark : (p : ℕ → Bool) → every p (bytes "()[],*+?@") ≡ true → (b : ℕ) → class_of b ≡ mark → p b ≡ true
unfolding class_of
each-mark p e b k =
    every_member p (bytes "()[],*+?@") b e
    (chain (is "\n" b) (is ";" b) (among "()[],*+?@" b) (is "." b) (among " \t\r" b) (is "#" b) (is "-" b)
    (between "0" "9" b) (between "A" "Z" b || between "a" "z" b || is "_" b) k)

-- a mark is no point, so it is one byte wide
pub mark_no_point : (b : ℕ) → class_of b ≡ mark → is "." b ≡ false
mark_no_point b k = not-true _ (each-mark (λ m. not (is "." m)) refl b k)

-- marks stand at 40 and above, which is where the kinds of tokens that are no marks end
pub mark_large : (b : ℕ) → class_of b ≡ mark → 40 ≤ b
mark_large b k = leb-true 40 b (each-mark (leb 40) refl b k)
