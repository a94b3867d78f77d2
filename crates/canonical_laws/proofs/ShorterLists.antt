-- How many bytes lists, arguments, statements and texts have where they are printed, from the bytes of their tokens.
-- Assumes nothing.
use Prim.Native.Nat.{ℕ, ◌+◌, ◌-◌, ◌≤◌}
use native.Mathlib.Omega.{arith}
use mathlib.Core.Path.{◌≡◌, refl}
use mathlib.Core.Bool.{Bool, true, false, cond}
use mathlib.Core.List.{List, [], ◌∷◌, ◌++◌}
use lib.ListN.{length, length-append}
use Rattle.text.specs.Bytes.{is}
use Rattle.tokens.specs.Token.{Shape, word, number, mark, width}
use Rattle.tokens.specs.Spelling.{is_number, spell, spell_all}
use Rattle.reading.specs.Statement.{Name, Statement}
use Rattle.canonical.specs.Canonical.{
  sign,
  name_shape,
  entry_shapes,
  argument_shapes,
  bracketed,
  bare_one,
  question_mark,
  call_shapes,
  statement_shapes,
  text_shapes,
}
use Rattle.canonical_laws.specs.Shorter.{
  widths,
  entry_widths,
  argument_widths,
  mark_width,
  call_width,
  statement_widths,
  name_width,
  in_brackets,
}

-- Tokens.

spell-length : (x : Shape) → length (spell x) ≡ width x
spell-length (word w) = refl
spell-length (number w) = refl
spell-length (mark m) = go (is "." m)
  where
    go : (t : Bool) → length (cond t (m ∷ m ∷ []) (m ∷ [])) ≡ cond t 2 1
    go true = refl
    go false = refl

-- The bytes of tokens are as many as each has.
pub spelled-length : (xs : List Shape) → length (spell_all xs) ≡ widths xs
spelled-length [] = refl
spelled-length (x ∷ xs) = simp (length-append, spell-length, spelled-length xs)

widths-append : (xs ys : List Shape) → widths (xs ++ ys) ≡ widths xs + widths ys
widths-append [] ys = omega arith
widths-append (x ∷ xs) ys = omega (arith, widths-append xs ys)

-- a name is printed as it is written
pub name_shape-width : (n : Name) → width (name_shape n) ≡ name_width n
name_shape-width n = go (is_number n.spelling)
  where
    go : (t : Bool) → width (cond t (number n.spelling) (word n.spelling)) ≡ name_width n
    go true = refl
    go false = refl

-- Lists.

entry_shapes-width : (xs : List Shape) → widths (entry_shapes xs) ≡ entry_widths xs - 1
entry_shapes-width [] = refl
entry_shapes-width (x ∷ []) = omega arith
entry_shapes-width (x ∷ y ∷ ys) = omega (arith, entry_shapes-width (y ∷ ys))

pub bracketed-width : (xs : List Shape) → widths (bracketed xs) ≡ in_brackets (entry_widths xs)
bracketed-width xs = omega (arith, widths-append (entry_shapes xs) (sign "]" ∷ []), entry_shapes-width xs)

-- one entry alone is without its brackets
pub bare_one-width : (xs : List Shape) → widths (bare_one xs) ≤ in_brackets (entry_widths xs)
bare_one-width [] = omega arith
bare_one-width (x ∷ []) = omega arith
bare_one-width (x ∷ y ∷ ys) = omega (arith, bracketed-width (x ∷ y ∷ ys))

-- Statements.

argument_shapes-width : (args : List (List Shape)) → widths (argument_shapes args) ≡ argument_widths args - 1
argument_shapes-width [] = refl
argument_shapes-width (a ∷ []) = omega arith
argument_shapes-width (a ∷ b ∷ cs) =
    omega (arith, widths-append a (sign "," ∷ argument_shapes (b ∷ cs)), argument_shapes-width (b ∷ cs))

pub argument_widths-append : (xs ys : List (List Shape)) → argument_widths (xs ++ ys) ≡ argument_widths xs + argument_widths ys
argument_widths-append [] ys = omega arith
argument_widths-append (x ∷ xs) ys = omega (arith, argument_widths-append xs ys)

question_mark-width : (m : Bool) → widths (question_mark m) ≡ mark_width m
question_mark-width true = refl
question_mark-width false = refl

-- a call of one argument or more
pub call_shapes-width :
    (k : List ℕ) (m : Bool) (args : List (List Shape))
    → 1 ≤ argument_widths args
    → widths (call_shapes k m args) ≡ call_width (length k) m (argument_widths args)
call_shapes-width k m args h =
    omega (
      arith,
      widths-append (question_mark m ++ sign "(" ∷ argument_shapes args) (sign ")" ∷ []),
      widths-append (question_mark m) (sign "(" ∷ argument_shapes args),
      question_mark-width m,
      argument_shapes-width args,
    )

-- at least so many, with no argument too
pub call_shapes-least :
    (k : List ℕ) (m : Bool) (args : List (List Shape)) → call_width (length k) m (argument_widths args) ≤ widths (call_shapes k m args)
call_shapes-least k m args =
    omega (
      arith,
      widths-append (question_mark m ++ sign "(" ∷ argument_shapes args) (sign ")" ∷ []),
      widths-append (question_mark m) (sign "(" ∷ argument_shapes args),
      question_mark-width m,
      argument_shapes-width args,
    )

-- Texts.

pub text_shapes-width : (ss : List Statement) → widths (text_shapes ss) ≡ statement_widths ss - 1
unfolding text_shapes
text_shapes-width [] = refl
text_shapes-width (s ∷ []) = omega arith
text_shapes-width (s ∷ t ∷ ss) =
    omega (arith, widths-append (statement_shapes s) (sign ";" ∷ text_shapes (t ∷ ss)), text_shapes-width (t ∷ ss))
