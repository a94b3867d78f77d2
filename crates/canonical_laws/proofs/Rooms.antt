-- The numbers of all statements of a text are at most twice as many as the text has bytes. Each argument has at most two numbers for each of
-- its bytes, the `,` or `)` behind it among them, and one more; the keyword, which has three bytes or more, and the `(` make up for those and
-- for the three numbers before the arguments.
-- Assumes nothing.
use Prim.Native.Nat.{ℕ, ◌+◌, ◌-◌, ◌*◌, ◌≤◌}
use native.Mathlib.Omega.{arith}
use mathlib.Core.Path.{◌≡◌}
use mathlib.Core.Bool.{Bool, true, false≢true}
use mathlib.Core.List.{List, [], ◌∷◌, map}
use mathlib.Core.Option.{some, none}
use lib.ListN.{length, length-append}
use Rattle.tokens.specs.Token.{Shape, width}
use Rattle.tokens.specs.Spelling.{is_word, is_number, is_name}
use Rattle.labels.specs.declared.Family.{Family}
use Rattle.labels.specs.Label.{keywords}
use Rattle.text.specs.Lists.{all}
use Rattle.text.proofs.Tests.{and_left, and_right}
use Rattle.reading.specs.Statement.{
  Name,
  Kind,
  a_word,
  a_number,
  Item,
  Modes,
  all_modes,
  modes,
  Counts,
  count,
  range,
  counts,
  Operand,
  everyone,
  symbol,
  names,
  estimated,
  counted,
  multiply,
  add,
  Feature,
  Absorption,
  Elimination,
  Peripherals,
  Transits,
  Lagtime,
  Covariate,
  Allometry,
  DirectEffect,
  EffectComp,
  IndirectEffect,
  Metabolite,
  Iiv,
  Iov,
  Covariance,
  Statement,
  Let,
  feature,
}
use Rattle.reading.specs.Parts.{
  Part,
  modes_part,
  counts_part,
  estimated_part,
  operand_part,
  name_part,
  values_part,
  operator_part,
  omitted,
  feature_parts,
  parts_of,
}
use Rattle.reading.specs.Answer.{accepted}
use Rattle.reading.specs.Read.{read_text}
use Rattle.reading_laws.specs.WellFormed.{one_to64, spelled_as, well_named, well_item, well_part, well_formed}
use Rattle.reading_laws.proofs.Parts.{parts_well}
use Rattle.reading_laws.proofs.WellRead.{text-well_formed}
use Rattle.canonical.specs.Canonical.{
  name_shape,
  label_shape,
  count_shape,
  item_shape,
  bare_one,
  bracketed,
  part_shapes,
  parts_shapes,
  keyword_at,
  statement_shapes,
  text_shapes,
}
use Rattle.canonical.specs.Numbers.{part_numbers, parts_numbers, head_numbers, numbers_of, counted_numbers, all_numbers_of}
use Rattle.canonical_laws.specs.Shorter.{widths, entry_widths, argument_widths, statement_widths}
use Rattle.canonical_laws.proofs.Lists.{each}
use Rattle.canonical_laws.proofs.Numbers.{pairs_many, values-many, head_many}
use Rattle.canonical_laws.proofs.ShorterLists.{
  spelled-length,
  name_shape-width,
  bracketed-width,
  argument_widths-append,
  call_shapes-least,
  text_shapes-width,
}
use Rattle.canonical_laws.proofs.Shorter.{not_longer}

-- Lists.

-- each entry with its `,` has a byte at least, and two where it is not empty
entries-least : {A : Type 0} (f : A → Shape) (xs : List A) → length xs ≤ entry_widths (map f xs)
entries-least f [] = omega arith
entries-least f (x ∷ xs) = omega (arith, entries-least f xs)

entries_double :
    {A : Type 0} (p : A → Bool) (f : A → Shape) (xs : List A)
    → ((x : A) → p x ≡ true → 1 ≤ width (f x))
    → all p xs ≡ true
    → length xs + length xs ≤ entry_widths (map f xs)
entries_double p f [] h e = omega arith
entries_double p f (x ∷ xs) h e =
    omega (arith, h x (and_left (p x) (all p xs) e), entries_double p f xs h (and_right (p x) (all p xs) e))

-- with or without brackets
bare-least : (xs : List Shape) → entry_widths xs ≤ widths (bare_one xs) + 1
bare-least [] = omega arith
bare-least (x ∷ []) = omega arith
bare-least (x ∷ y ∷ ys) = omega (arith, bracketed-width (x ∷ y ∷ ys))

-- names are not empty
word_some : (w : List ℕ) → is_word w ≡ true → 1 ≤ length w
word_some [] e = absurd (false≢true e)
word_some (b ∷ bs) e = omega arith

number_some : (w : List ℕ) → is_number w ≡ true → 1 ≤ length w
number_some [] e = absurd (false≢true e)
number_some (b ∷ bs) e = omega arith

named_some : (w : List ℕ) → is_name w ≡ true → 1 ≤ length w
named_some [] e = absurd (false≢true e)
named_some (b ∷ bs) e = omega arith

name_some : (n : Name) → well_named n ≡ true → 1 ≤ width (name_shape n)
name_some n e = rw (name_shape-width n) (named_some n.spelling e)

item_some : (i : Item) → well_item i ≡ true → 1 ≤ width (item_shape i)
item_some i e = rw (name_shape-width i.name) (go i.kind e)
  where
    go : (k : Kind) → spelled_as k i.name ≡ true → 1 ≤ length i.name.spelling
    go a_word e = word_some i.name.spelling e
    go a_number e = number_some i.name.spelling e

-- Arguments.

modes-room : (f : Family) (ms : List ℕ) → 2 + length ms ≤ 2 * (widths (bare_one (map (label_shape f) ms)) + 1) + 1
modes-room f [] = omega arith
modes-room f (m ∷ ms) =
    omega (arith, bare-least (map (label_shape f) (m ∷ ms)), entries-least (label_shape f) (m ∷ ms))

names-room : (ns : List Name) → one_to64 well_named ns ≡ true → 2 + (length ns + length ns) ≤ 2 * (widths (bare_one (map name_shape ns)) + 1) + 1
names-room [] e = absurd (false≢true e)
names-room (n ∷ ns) e =
    omega (arith, bare-least (map name_shape (n ∷ ns)), entries_double well_named name_shape (n ∷ ns) name_some (each well_named (n ∷ ns) e))

values-room :
    (is : List Item)
    → one_to64 well_item is ≡ true
    → 2 + (length is + length is + length is) ≤ 2 * (widths (bare_one (map item_shape is)) + 1) + 1
values-room [] e = absurd (false≢true e)
values-room (i ∷ is) e =
    omega (arith, bare-least (map item_shape (i ∷ is)), entries_double well_item item_shape (i ∷ is) item_some (each well_item (i ∷ is) e))

part_room : (limit : ℕ) (p : Part) → well_part limit p ≡ true → length (part_numbers p) ≤ 2 * argument_widths (part_shapes p) + 1
part_room limit (modes_part f all_modes) e = omega arith
part_room limit (modes_part f (modes ms)) e = omega (arith, modes-room f ms)
part_room limit (counts_part (count v)) e = omega arith
part_room limit (counts_part (range a b)) e = omega arith
part_room limit (counts_part (counts vs)) e = omega (arith, bracketed-width (map count_shape vs), entries-least count_shape vs)
part_room limit estimated_part e = omega arith
part_room limit (operand_part everyone) e = omega arith
part_room limit (operand_part (symbol n)) e = omega arith
part_room limit (operand_part (names ns)) e = omega (arith, names-room ns e, pairs_many ns)
part_room limit (name_part n) e = omega arith
part_room limit (values_part is) e = omega (arith, values-room is e, values-many is)
part_room limit (operator_part multiply) e = omega arith
part_room limit (operator_part add) e = omega arith
part_room limit omitted e = omega arith

parts_room :
    (limit : ℕ) (ps : List Part)
    → all (well_part limit) ps ≡ true
    → length (parts_numbers ps) ≤ 2 * argument_widths (parts_shapes ps) + length ps
parts_room limit [] e = omega arith
parts_room limit (p ∷ ps) e =
    omega (
      arith,
      length-append (part_numbers p) (parts_numbers ps),
      argument_widths-append (part_shapes p) (parts_shapes ps),
      part_room limit p (and_left (well_part limit p) (all (well_part limit) ps) e),
      parts_room limit ps (and_right (well_part limit p) (all (well_part limit) ps) e),
    )

-- Statements.

-- a keyword has three bytes at least, and a statement four arguments at most
feature-least : (f : Feature) → (3 ≤ length (keyword_at (feature_parts f).keyword)) × (length (feature_parts f).arguments ≤ 4)
unfolding feature_parts keywords
feature-least (Absorption ms) = (omega arith, omega arith)
feature-least (Elimination ms) = (omega arith, omega arith)
feature-least (Peripherals c none) = (omega arith, omega arith)
feature-least (Peripherals c (some ms)) = (omega arith, omega arith)
feature-least (Transits estimated none) = (omega arith, omega arith)
feature-least (Transits estimated (some ms)) = (omega arith, omega arith)
feature-least (Transits (counted c) none) = (omega arith, omega arith)
feature-least (Transits (counted c) (some ms)) = (omega arith, omega arith)
feature-least (Lagtime ms) = (omega arith, omega arith)
feature-least (Covariate m ps cs es op) = (omega arith, omega arith)
feature-least (Allometry n none) = (omega arith, omega arith)
feature-least (Allometry n (some r)) = (omega arith, omega arith)
feature-least (DirectEffect ms) = (omega arith, omega arith)
feature-least (EffectComp ms) = (omega arith, omega arith)
feature-least (IndirectEffect ms ps) = (omega arith, omega arith)
feature-least (Metabolite ms) = (omega arith, omega arith)
feature-least (Iiv m ps es) = (omega arith, omega arith)
feature-least (Iov m ps es) = (omega arith, omega arith)
feature-least (Covariance m ls ps) = (omega arith, omega arith)

statement-least : (s : Statement) → (3 ≤ length (keyword_at (parts_of s).keyword)) × (length (parts_of s).arguments ≤ 4)
unfolding parts_of keywords
statement-least (Let n is) = (omega arith, omega arith)
statement-least (feature f) = feature-least f

-- A well formed statement has at most twice as many numbers, with their number before them, as its canonical text has bytes.
pub statement-room : (limit : ℕ) (s : Statement) → well_formed limit s ≡ true → length (counted_numbers s) ≤ 2 * widths (statement_shapes s)
unfolding numbers_of statement_shapes
statement-room limit s e =
    let p = parts_of s in
    omega (
      arith,
      length-append (head_numbers p.keyword p.optional) (parts_numbers p.arguments),
      head_many p.keyword p.optional,
      parts_room limit p.arguments (parts_well limit s e),
      (statement-least s).0,
      (statement-least s).1,
      call_shapes-least (keyword_at p.keyword) p.optional (parts_shapes p.arguments),
    )

-- Texts.

statements-room :
    (limit : ℕ) (ss : List Statement)
    → all (well_formed limit) ss ≡ true
    → length (all_numbers_of ss) + 2 * length ss ≤ 2 * statement_widths ss
unfolding all_numbers_of
statements-room limit [] e = omega arith
statements-room limit (s ∷ ss) e =
    omega (
      arith,
      length-append (counted_numbers s) (all_numbers_of ss),
      statement-room limit s (and_left (well_formed limit s) (all (well_formed limit) ss) e),
      statements-room limit ss (and_right (well_formed limit s) (all (well_formed limit) ss) e),
    )

-- The numbers of all statements of a text are at most twice as many as its bytes.
pub all-numbers-room :
    (limit : ℕ) (text : List ℕ) (ss : List Statement) → read_text limit text ≡ accepted ss → length (all_numbers_of ss) ≤ 2 * length text
all-numbers-room limit text ss r =
    omega (
      arith,
      at_least_one ss,
      statements-room limit ss (text-well_formed limit text ss r),
      text_shapes-width ss,
      spelled-length (text_shapes ss),
      not_longer limit text ss r,
    )
  where
    at_least_one : (ss : List Statement) → statement_widths ss ≤ statement_widths ss - 1 + length ss
    at_least_one [] = omega arith
    at_least_one (s ∷ ss) = omega arith
