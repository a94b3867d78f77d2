-- Every token of any text has a shape that tokens have: a word's bytes are one word, and a number's are one number.
-- Assumes nothing.
use mathlib.Core.Path.{◌≡◌, refl, ◌∙◌, ap}
use mathlib.Core.Bool.{Bool, true, false}
use mathlib.Core.List.{List, [], ◌∷◌, ◌++◌}
use Prim.Native.Nat.{ℕ, zero, suc, ◌+◌}
use native.Mathlib.Omega.{arith}
use borrow.Author.Tests.{eqb-true, eq-eqb}
use lib.Dec.{eqb}
use lib.ListN.{take, drop}
use lib.Seq.{length-take-le, take-add, drop_at}
use Rattle.text.specs.Bytes.{span}
use Rattle.tokens.specs.Class.{Class, newline, semicolon, mark, dot, blank, hash, other, hyphen, digit, letter, class_of, class_number}
use Rattle.tokens.specs.Token.{Tokens}
use Rattle.tokens.specs.Token as shapes
use Rattle.tokens.specs.Lex.{Front, skip, taken, wrong, in_word, in_number, fraction, number_rest, front_of, follow, tokens_after, tokens_at}
use Rattle.tokens.specs.Spelling.{is_shape}
use Rattle.tokens.proofs.Classes.{each-mark}
use Rattle.tokens.proofs.Runs.{span-most}
use Rattle.tokens.proofs.Numbers.{fraction_case, number-most}
use Rattle.tokens.proofs.Steps.{dots_case}
use Rattle.token_laws.specs.Follow.{starts_with}
use Rattle.token_laws.specs.Shaped.{all_shapes}
use Rattle.text.proofs.Passing.{every-run, span-every}
use Rattle.token_laws.proofs.Fronts.{span-append, reach}

-- a run's bytes are the run again
run-again : (p : ℕ → Bool) (l : List ℕ) → span p (take (span p l) l) ≡ span p l
run-again p l = span-every p (take (span p l) l) (every-run p l) ∙ length-take-le (span p l) l (span-most p l)

-- a point with its digits starts with no digit, and is one again
point_first : (l : List ℕ) → starts_with in_number (take (fraction l) l) ≡ false
point_first l =
    fraction_case (λ l n. starts_with in_number (take n l) ≡ false) l refl (λ p d ds a b. ap (λ (n : ℕ). eqb n 8) (eqb-true (class_number p) 3 a))

fraction-again : (l : List ℕ) → fraction (take (fraction l) l) ≡ fraction l
unfolding fraction
fraction-again l =
    fraction_case (λ l n. fraction (take n l) ≡ n) l refl
    (λ p d ds a b. simp (a, b, run-again in_number ds) (let n : 2 + span in_number ds ≡ suc (suc (span in_number ds)) = omega arith in n))

-- a number's bytes after the first are a number's rest again
number-again : (l : List ℕ) → number_rest (take (number_rest l) l) ≡ number_rest l
unfolding number_rest
number-again l =
    let digits = span in_number l in
    let points = fraction (drop digits l) in
    let rest = take points (drop digits l) in
    ap number_rest (take-add digits points l)
    ∙ ap (λ (n : ℕ). n + fraction (drop n (take digits l ++ rest)))
    (span-append in_number (take digits l) rest (point_first (drop digits l)) ∙ run-again in_number l)
    ∙ ap (λ (m : List ℕ). digits + fraction m)
    (drop_at (take digits l) rest digits (length-take-le digits l (span-most in_number l)))
    ∙ ap (λ (n : ℕ). digits + n) (fraction-again (drop digits l))

-- what is taken at a byte has a shape
abbrev ShapeAt : Front → Type 0
ShapeAt (skip k) = Unit {0}
ShapeAt (taken s k) = is_shape s ≡ true
ShapeAt wrong = Unit {0}

front_shape : (c : Class) (b : ℕ) (bs : List ℕ) → class_of b ≡ c → ShapeAt (front_of c b bs)
unfolding front_of
front_shape newline b bs e = refl
front_shape semicolon b bs e = refl
front_shape mark b bs e = each-mark (λ m. is_shape (shapes.mark m)) refl b e
front_shape dot b bs e = dots_case ShapeAt bs tt (λ h. refl)
front_shape blank b bs e = tt
front_shape hash b bs e = tt
front_shape other b bs e = tt
front_shape hyphen b bs e = tt
front_shape digit b bs e =
    simp (e, number-again bs, length-take-le (number_rest bs) bs (number-most bs)) (eq-eqb (number_rest bs) (number_rest bs) refl)
front_shape letter b bs e = simp (e, every-run in_word bs)

follow_shapes : (f : Front) (o : ℕ) (g : ℕ → Tokens) → ShapeAt f → all_shapes (g (reach f)) ≡ true → all_shapes (follow f o g) ≡ true
unfolding follow
follow_shapes (skip k) o g s e = e
follow_shapes (taken x k) o g s e = simp (s, e)
follow_shapes wrong o g s e = refl

shapes_after : (k o : ℕ) (s : List ℕ) → all_shapes (tokens_after k o s) ≡ true
unfolding tokens_after
shapes_after k o [] = refl
shapes_after zero o (b ∷ bs) =
    follow_shapes (front_of (class_of b) b bs) o (λ k. tokens_after k (suc o) bs) (front_shape (class_of b) b bs refl)
    (shapes_after (reach (front_of (class_of b) b bs)) (suc o) bs)
shapes_after (suc k) o (b ∷ bs) = shapes_after k (suc o) bs

-- Every token of a text has a shape that tokens have.
pub tokens_shapes : (o : ℕ) (s : List ℕ) → all_shapes (tokens_at o s) ≡ true
tokens_shapes o s = shapes_after 0 o s
