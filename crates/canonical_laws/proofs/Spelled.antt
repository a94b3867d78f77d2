-- Printed tokens are spelled so that they are found again: each has the shape of a token, and of two neighbours one is a mark.
-- Assumes nothing.
use Prim.Native.Nat.{ℕ}
use Prim.Native.Char.{Char, code}
use mathlib.Core.Path.{◌≡◌, refl}
use mathlib.Core.Bool.{true, or-true, ◌||◌}
use mathlib.Core.List.{List, [], ◌∷◌, ◌++◌}
use Rattle.tokens.specs.Token.{Shape, mark}
use Rattle.tokens.specs.Spelling.{is_shape, is_mark, apart}
use Rattle.text.specs.Lists.{all}
use Rattle.text.proofs.Tests.{and_left, and_right, both}
use Rattle.reading.specs.Statement.{Item}
use Rattle.reading.specs.Argument.{Arg}
use Rattle.canonical.specs.Canonical.{sign, entry_shapes, argument_shapes, bracketed}
use Rattle.canonical_laws.specs.Printed.{
  Entry,
  word_entry,
  number_entry,
  Entries,
  no_entry,
  one_more,
  Spelled,
  PrintedAll,
  lastly,
  before,
}

-- a mark with nothing, or with what is apart, on its sides
mark-before : (m : ℕ) (ys : List Shape) → apart ys ≡ true → apart (mark m ∷ ys) ≡ true
mark-before m [] e = refl
mark-before m (y ∷ ys) e = e

apart-mark : (xs : List Shape) (m : ℕ) (ys : List Shape) → apart xs ≡ true → apart ys ≡ true → apart (xs ++ mark m ∷ ys) ≡ true
apart-mark [] m ys e f = mark-before m ys f
apart-mark (x ∷ []) m ys e f = both (or-true (is_mark x)) (mark-before m ys f)
apart-mark (x ∷ z ∷ zs) m ys e f =
    both (and_left (is_mark x || is_mark z) (apart (z ∷ zs)) e)
    (apart-mark (z ∷ zs) m ys (and_right (is_mark x || is_mark z) (apart (z ∷ zs)) e) f)

shaped-mark :
    (xs : List Shape) (m : ℕ) (ys : List Shape)
    → all is_shape xs ≡ true
    → is_shape (mark m) ≡ true
    → all is_shape ys ≡ true
    → all is_shape (xs ++ mark m ∷ ys) ≡ true
shaped-mark [] m ys e h f = both h f
shaped-mark (x ∷ xs) m ys e h f =
    both (and_left (is_shape x) (all is_shape xs) e) (shaped-mark xs m ys (and_right (is_shape x) (all is_shape xs) e) h f)

-- No token, one token, and tokens on both sides of a mark are spelled so.
pub none-spelled : Spelled []
none-spelled = record { shaped = refl; spaced = refl }

pub one-spelled : {x : Shape} → is_shape x ≡ true → Spelled (x ∷ [])
one-spelled e = record { shaped = both e refl; spaced = refl }

pub sign-spelled : {xs ys : List Shape} (c : Char) → Spelled xs → is_shape (sign c) ≡ true → Spelled ys → Spelled (xs ++ sign c ∷ ys)
sign-spelled {xs} {ys} c p e q =
    record {
      shaped = shaped-mark xs (code c) ys p.shaped e q.shaped;
      spaced = apart-mark xs (code c) ys p.spaced q.spaced;
    }

-- The entries of a list, in brackets too, and the arguments of a call.
entry-spelled : {x : Shape} {i : Item} → Entry x i → Spelled (x ∷ [])
entry-spelled (word_entry e) = one-spelled e
entry-spelled (number_entry e) = one-spelled e

entries-spelled : {xs : List Shape} {is : List Item} → Entries xs is → Spelled (entry_shapes xs)
entries-spelled no_entry = none-spelled
entries-spelled (one_more e no_entry) = entry-spelled e
entries-spelled (one_more e (one_more f r)) = sign-spelled "," (entry-spelled e) refl (entries-spelled (one_more f r))

pub bracketed-spelled : {xs : List Shape} {is : List Item} → Entries xs is → Spelled (bracketed xs)
bracketed-spelled r = sign-spelled "[" none-spelled refl (sign-spelled "]" (entries-spelled r) refl none-spelled)

pub arguments-spelled : {limit : ℕ} {xss : List (List Shape)} {bs : List Arg} → PrintedAll limit xss bs → Spelled (argument_shapes xss)
arguments-spelled (lastly p) = p.spelled
arguments-spelled (before p r) = sign-spelled "," p.spelled refl (arguments-spelled r)
