-- Document 01, Holding the calls to their word, 3: "Statements are the same when Statement gives equal values once each pair is replaced by the
-- bytes it points to, a symbol never being equal to a name". Of the exported Statement, which gives numbers (`canonical/specs/Numbers.antt` has
-- their kinds): in place of an offset and the length behind it stand the text's bytes there, and every other number stays. So a caller can
-- compare statements by nothing but their numbers and their texts. A symbol has kind 6 and names have kind 7, and no two kinds are equal.
use Rattle.std.specs.Prelude.{ℕ, zero, suc, Bool, false, List, [], ◌∷◌, ◌++◌, eqb, get_or, take, drop}
use Rattle.text.specs.Lists.{same_bytes}
use Rattle.resolving_laws.specs.Same.{same_list}

-- A number that stays, or the bytes that a pair points to.
pub data Entry : Type 0 where
  as_number : ℕ → Entry
  as_bytes : List ℕ → Entry

abbrev pub Value : Type 0
Value = List Entry

-- What comes next in a statement's numbers: these, each a number or a pair; or how many there are of these, and then so many.
pub data Field : Type 0 where
  a_number a_pair : Field

pub data Due : Type 0 where
  these many_of : List Field → Due

-- behind the number of an argument's kind, from 0 on
abbrev pub kinds : List Due
kinds =
    these []
    ∷ many_of (a_number ∷ [])
    ∷ these (a_number ∷ [])
    ∷ these (a_number ∷ a_number ∷ [])
    ∷ many_of (a_number ∷ [])
    ∷ these []
    ∷ these (a_pair ∷ [])
    ∷ many_of (a_pair ∷ [])
    ∷ these (a_pair ∷ [])
    ∷ these []
    ∷ these []
    ∷ these []
    ∷ many_of (a_number ∷ a_pair ∷ [])
    ∷ []

abbrev pub repeated : ℕ → List Field → List Field
repeated zero fs = []
repeated (suc n) fs = fs ++ repeated n fs

-- Numbers with each pair replaced by the bytes of a text that it points to. Where nothing is due, the kind of the next argument comes.
unfoldable pub replaced : List ℕ → Due → List ℕ → Value
replaced text (these []) [] = []
replaced text (these []) (k ∷ ns) = as_number k ∷ replaced text (get_or kinds k (these [])) ns
replaced text (these (a_number ∷ fs)) [] = []
replaced text (these (a_number ∷ fs)) (n ∷ ns) = as_number n ∷ replaced text (these fs) ns
replaced text (these (a_pair ∷ fs)) [] = []
replaced text (these (a_pair ∷ fs)) (o ∷ []) = as_number o ∷ []
replaced text (these (a_pair ∷ fs)) (o ∷ n ∷ ns) = as_bytes (take n (drop o text)) ∷ replaced text (these fs) ns
replaced text (many_of fs) [] = []
replaced text (many_of fs) (n ∷ ns) = as_number n ∷ replaced text (these (repeated n fs)) ns

-- a statement's: its keyword, its `?` and its arguments
abbrev pub value_in : List ℕ → List ℕ → Value
value_in text ns = replaced text (these (a_number ∷ a_number ∷ [])) ns

-- Equal values.

abbrev pub same_entry : Entry → Entry → Bool
same_entry (as_number n) (as_number m) = eqb n m
same_entry (as_number n) (as_bytes b) = false
same_entry (as_bytes a) (as_number m) = false
same_entry (as_bytes a) (as_bytes b) = same_bytes a b

abbrev pub same_value : Value → Value → Bool
same_value v w = same_list same_entry v w
