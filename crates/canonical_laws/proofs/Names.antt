-- Names are read again as they are written: parameters and covariates, a name alone, and the values of a LET.
-- Assumes nothing.
use Prim.Native.Nat.{ℕ}
use mathlib.Core.Path.{◌≡◌, refl, ap}
use mathlib.Core.Bool.{Bool, true, false, cond, false≢true, or-false, ◌||◌}
use mathlib.Core.List.{List, [], ◌∷◌, map}
use Rattle.tokens.specs.Token.{word, number}
use Rattle.tokens.specs.Spelling.{is_word, is_number}
use Rattle.token_laws.proofs.Spelled.{word_no_number}
use Rattle.reading.specs.Statement.{Name, Kind, a_word, a_number, Item, Operand, everyone, names}
use Rattle.reading.specs.Statement as statement
use Rattle.reading.specs.Answer.{accepted}
use Rattle.reading.specs.Argument.{star, symbol, single, items_of, operand_of}
use Rattle.reading.specs.Feature.{name_of}
use Rattle.reading.specs.Syntax.{name, item_as}
use Rattle.reading_laws.specs.Moved.{move_name, move_item, move_operand}
use Rattle.reading_laws.specs.WellFormed.{one_to64, spelled_as, well_named, well_item, well_operand}
use Rattle.canonical.specs.Canonical.{name_shape, item_shape, bare_one, operand_shapes}
use Rattle.canonical_laws.specs.Forgotten.{nowhere}
use Rattle.canonical_laws.specs.Printed.{Entry, word_entry, number_entry, bare_arg, Again}
use Rattle.canonical_laws.proofs.Arguments.{star-printed, symbol-printed, single-printed}
use Rattle.canonical_laws.proofs.Lists.{bare_list_printed}

-- a name as an entry, which may be a number
abbrev name_item : Name → Item
name_item n = item_as (cond (is_number n.spelling) a_number a_word) 0 n.spelling

name-entry : (n : Name) → well_named n ≡ true → Entry (name_shape n) (name_item n)
name-entry n e = go (is_number n.spelling) refl e
  where
    go :
        (t : Bool)
        → is_number n.spelling ≡ t
        → (is_word n.spelling || t) ≡ true
        → Entry (cond t (number n.spelling) (word n.spelling)) (item_as (cond t a_number a_word) 0 n.spelling)
    go true h e = number_entry h
    go false h e = word_entry (rw or-false at e)

-- a name that is known to be a word, or a number
kind-entry : (k : Kind) (n : Name) → spelled_as k n ≡ true → Entry (name_shape n) (item_as k 0 n.spelling)
kind-entry a_word n e = rw (word_no_number n.spelling e) (word_entry e)
kind-entry a_number n e = rw e (number_entry e)

-- the names of entries are the names, without their places
names-mean : (ns : List Name) → map (λ x. x.name) (map name_item ns) ≡ map (move_name nowhere) ns
names-mean [] = refl
names-mean (n ∷ ns) = ap (λ (l : List Name). move_name nowhere n ∷ l) (names-mean ns)

operand_means :
    (ns : List Name) → one_to64 well_named ns ≡ true → operand_of (bare_arg (map name_item ns)) ≡ accepted (names (map (move_name nowhere) ns))
unfolding operand_of
operand_means [] e = absurd (false≢true e)
operand_means (n ∷ []) e = refl
operand_means (n ∷ m ∷ ns) e = simp (names-mean ns)

-- Parameters and covariates are printed so that they are read again as themselves.
pub operand_again :
    (limit : ℕ) (p : Operand) → well_operand p ≡ true → Again limit (operand_shapes p) (λ a. operand_of a ≡ accepted (move_operand nowhere p))
unfolding operand_of
operand_again limit everyone e = record { arg = star 0; printed = star-printed; fact = refl }
operand_again limit (statement.symbol n) e = record { arg = symbol 0 (name 0 n.spelling); printed = symbol-printed e; fact = refl }
operand_again limit (names ns) e =
    record {
      arg = bare_arg (map name_item ns);
      printed = bare_list_printed name_shape name_item well_named name-entry ns e;
      fact = operand_means ns e;
    }

-- So is a word, or a number, alone.
pub name-again :
    (limit : ℕ) (k : Kind) (n : Name)
    → spelled_as k n ≡ true
    → Again limit (name_shape n ∷ []) (λ a. name_of k a ≡ accepted (move_name nowhere n))
unfolding name_of
name-again limit a_word n e =
    record { arg = single (item_as a_word 0 n.spelling); printed = single-printed (kind-entry a_word n e); fact = refl }
name-again limit a_number n e =
    record { arg = single (item_as a_number 0 n.spelling); printed = single-printed (kind-entry a_number n e); fact = refl }

items_mean :
    (is : List Item) → one_to64 well_item is ≡ true → items_of (bare_arg (map (move_item nowhere) is)) ≡ accepted (map (move_item nowhere) is)
unfolding items_of
items_mean [] e = absurd (false≢true e)
items_mean (i ∷ []) e = refl
items_mean (i ∷ j ∷ is) e = refl

-- And the values of a LET.
pub items_again :
    (limit : ℕ) (is : List Item)
    → one_to64 well_item is ≡ true
    → Again limit (bare_one (map item_shape is)) (λ a. items_of a ≡ accepted (map (move_item nowhere) is))
items_again limit is e =
    record {
      arg = bare_arg (map (move_item nowhere) is);
      printed = bare_list_printed item_shape (move_item nowhere) well_item (λ i h. kind-entry i.kind i.name h) is e;
      fact = items_mean is e;
    }
