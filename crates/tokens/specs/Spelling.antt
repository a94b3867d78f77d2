-- Document 01, The context: "all of them together, nothing skipped, are one word or one number". How tokens are spelled.
use Rattle.std.specs.Prelude.{ℕ, Bool, true, false, cond, ◌&&◌, ◌||◌, List, [], ◌∷◌, ◌++◌, eqb, length}
use Rattle.text.specs.Bytes.{is, among, every}
use Rattle.tokens.specs.Class.{is_a, digit, letter}
use Rattle.tokens.specs.Token.{Shape, word, number, mark}
use Rattle.tokens.specs.Lex.{in_word, number_rest}

abbrev pub is_word : List ℕ → Bool
is_word [] = false
is_word (b ∷ bs) = is_a letter b && every in_word bs

abbrev pub is_number : List ℕ → Bool
is_number [] = false
is_number (b ∷ bs) = is_a digit b && eqb (number_rest bs) (length bs)

-- what may stand in a place for names
abbrev pub is_name : List ℕ → Bool
is_name w = is_word w || is_number w

-- the shapes that tokens have
abbrev pub is_shape : Shape → Bool
is_shape (word w) = is_word w
is_shape (number w) = is_number w
is_shape (mark m) = is "." m || among "()[],*+?@;" m

-- a token's bytes
abbrev pub spell : Shape → List ℕ
spell (word w) = w
spell (number w) = w
spell (mark m) = cond (is "." m) (m ∷ m ∷ []) (m ∷ [])

abbrev pub spell_all : List Shape → List ℕ
spell_all [] = []
spell_all (x ∷ xs) = spell x ++ spell_all xs

-- a mark separates what stands before and after it; a word or a number beside another would be read as one
abbrev pub is_mark : Shape → Bool
is_mark (word w) = false
is_mark (number w) = false
is_mark (mark m) = true

abbrev pub apart : List Shape → Bool
apart [] = true
apart (x ∷ []) = true
apart (x ∷ y ∷ ys) = (is_mark x || is_mark y) && apart (y ∷ ys)
