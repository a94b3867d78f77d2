-- Document 01, Reading: "Space, tab and CR are skipped. Newline and `;` separate. `#` skips to the newline; bytes of 128
-- and more may stand only there." And "The match on `char`: a table of 256 byte classes, and a decision by class."
use Rattle.std.specs.Prelude.{ℕ, Bool, cond, ◌&&◌, ◌||◌, List, map, eqb, leb}
use Rattle.text.specs.Bytes.{is, among, between}
pub use Rattle.text.specs.Bytes.{count_up}

pub data Class : Type 0 where
  newline semicolon mark dot blank hash other hyphen digit letter : Class

-- a class's number in the table of classes
abbrev pub number : Class → ℕ
number newline = 0
number semicolon = 1
number mark = 2
number dot = 3
number blank = 4
number hash = 5
number other = 6
number hyphen = 7
number digit = 8
number letter = 9

unfoldable pub class_of : ℕ → Class
class_of b =
    cond (is "\n" b) newline
    (cond (is ";" b) semicolon
    (cond (among "()[],*+?@" b) mark
    (cond (is "." b) dot
    (cond (among " \t\r" b) blank
    (cond (is "#" b) hash
    (cond (is "-" b) hyphen
    (cond (between "0" "9" b) digit
    (cond (between "A" "Z" b || between "a" "z" b || is "_" b) letter
    other))))))))

-- the number of the byte's class
abbrev pub class_number : ℕ → ℕ
class_number b = number (class_of b)

-- the byte is of the class
abbrev pub is_a : Class → ℕ → Bool
is_a k b = eqb (class_number b) (number k)

-- the byte's class lies between two numbers, both included
abbrev pub class_between : ℕ → ℕ → ℕ → Bool
class_between lo hi b = leb lo (class_number b) && leb (class_number b) hi

-- the table: each byte's class number at its place
unfoldable pub class_table : List ℕ
class_table = map class_number (count_up 0 256)
