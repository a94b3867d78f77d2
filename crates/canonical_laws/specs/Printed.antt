-- What it is for printed tokens to be an argument again: they are tokens, none of them runs into the next, and they are read as it.
use Rattle.std.specs.Prelude.{ℕ, ◌≡◌, Bool, true, false, not, ◌&&◌, List, [], ◌∷◌, ◌++◌}
use Rattle.text.specs.Bytes.{bytes, is}
use Rattle.tokens.specs.Token.{Shape, word, number, mark}
use Rattle.tokens.specs.Spelling.{is_word, is_number, is_shape, apart}
use Rattle.text.specs.Lists.{all}
use Rattle.labels.specs.Word.{same_word}
use Rattle.reading.specs.Statement.{a_word, a_number, Item, Feature}
use Rattle.reading.specs.Answer.{accepted}
use Rattle.reading.specs.Argument.{Arg, single, array}
use Rattle.reading.specs.Feature.{build_feature}
use Rattle.reading.specs.Syntax.{Call, argument, argument_read, name, item_as}
use Rattle.reading.specs.Read.{inside, read_from}
use Rattle.canonical_laws.specs.Forgotten.{flat}

-- a printed entry of a list, which is a word or a number
pub data Entry : Shape → Item → Type 0 where
  word_entry : {w : List ℕ} → is_word w ≡ true → Entry (word w) (item_as a_word 0 w)
  number_entry : {w : List ℕ} → is_number w ≡ true → Entry (number w) (item_as a_number 0 w)

pub data Entries : List Shape → List Item → Type 0 where
  no_entry : Entries [] []
  one_more : {x : Shape} {i : Item} {xs : List Shape} {is : List Item} → Entry x i → Entries xs is → Entries (x ∷ xs) (i ∷ is)

-- the argument that a list is printed as: alone where it has one entry
abbrev pub bare_arg : List Item → Arg
bare_arg [] = array 0 []
bare_arg (i ∷ []) = single i
bare_arg (i ∷ j ∷ js) = array 0 (i ∷ j ∷ js)

-- Shapes that tokens have, none of which runs into the next.
pub record Spelled (xs : List Shape) : Type 0 where
  pub shaped : all is_shape xs ≡ true
  pub spaced : apart xs ≡ true

-- Shapes that are read as an argument, with the mark after them.
pub record Printed (limit : ℕ) (xs : List Shape) (a : Arg) : Type 0 where
  pub spelled : Spelled xs
  pub read :
      (n : ℕ) (c : Call) (m : ℕ) (rest : List Shape)
      → is "." m ≡ false
      → read_from limit 0 n (inside (argument c)) (flat (xs ++ mark m ∷ rest))
      ≡ read_from limit 0 n (inside (argument_read c a)) (flat (mark m ∷ rest))

-- Shapes that are read as some argument, of which a fact holds.
pub record Again (limit : ℕ) (xs : List Shape) (Fact : Arg → Type 0) : Type 0 where
  pub arg : Arg
  pub printed : Printed limit xs arg
  pub fact : Fact arg

-- One argument or more.
pub data PrintedAll (limit : ℕ) : List (List Shape) → List Arg → Type 0 where
  lastly : {xs : List Shape} {a : Arg} → Printed limit xs a → PrintedAll limit (xs ∷ []) (a ∷ [])
  before :
      {xs ys : List Shape} {yss : List (List Shape)} {a : Arg} {bs : List Arg}
      → Printed limit xs a
      → PrintedAll limit (ys ∷ yss) bs
      → PrintedAll limit (xs ∷ ys ∷ yss) (a ∷ bs)

-- a word that is not LET
abbrev pub starts_feature : List ℕ → Bool
starts_feature k = is_word k && not (same_word k (bytes "LET"))

-- A call that is read as a feature.
pub record PrintedCall (limit : ℕ) (k : List ℕ) (m : Bool) (xss : List (List Shape)) (f : Feature) : Type 0 where
  pub starts : starts_feature k ≡ true
  pub arguments : List Arg
  pub printed : PrintedAll limit xss arguments
  pub means : build_feature limit (name 0 k) m arguments ≡ accepted f
