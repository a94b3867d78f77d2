-- What every statement is that a text is read as: its names are words or numbers, a list of it has one entry to 64, its modes are places in
-- their family, none twice, its counts keep within the limit, and its arguments stand together as its feature asks.
use Rattle.std.specs.Prelude.{ℕ, ◌≡◌, Bool, true, false, not, ◌&&◌, List, [], ◌∷◌, eqb, leb, ltb, length}
use Rattle.std.proofs.Math.Option.{Option, some, none}
use Rattle.tokens.specs.Spelling.{is_word, is_number, is_name}
use Rattle.text.specs.Lists.{all}
use Rattle.labels.specs.declared.Family.{Family}
use Rattle.labels.specs.Label.{labels_of}
use Rattle.reading.specs.Statement.{
  Name,
  Kind,
  a_word,
  a_number,
  Item,
  Modes,
  all_modes,
  modes,
  Counts,
  count,
  counts,
  TransitCounts,
  estimated,
  counted,
  Operand,
  everyone,
  names,
  Feature,
  Absorption,
  Elimination,
  Peripherals,
  Transits,
  Lagtime,
  Covariate,
  Allometry,
  DirectEffect,
  EffectComp,
  IndirectEffect,
  Metabolite,
  Iiv,
  Iov,
  Covariance,
  Statement,
  Let,
  feature,
}
use Rattle.reading.specs.Statement as statement
use Rattle.reading.specs.Parts.{
  Part,
  modes_part,
  counts_part,
  estimated_part,
  operand_part,
  name_part,
  values_part,
  operator_part,
  omitted,
  Parts,
  feature_parts,
}
use Rattle.reading.specs.Answer.{Answer, accepted, refused}
use Rattle.reading.specs.Argument.{Arg, star, plus, symbol, single, range, array}
use Rattle.reading.specs.Syntax.{
  Call,
  feature_call,
  let_call,
  State,
  keyword,
  marked,
  let_keyword,
  let_open,
  let_named,
  argument,
  at_sign,
  number_read,
  range_open,
  array_open,
  item,
  item_read,
  argument_read,
}
use Rattle.reading.specs.Read.{Where, between, ended, inside}

-- Statements.

-- at most 64 things, each of which passes a test; and not none
abbrev pub up_to64 : {A : Type 0} → (A → Bool) → List A → Bool
up_to64 p xs = leb (length xs) 64 && all p xs

abbrev pub one_to64 : {A : Type 0} → (A → Bool) → List A → Bool
one_to64 p [] = false
one_to64 p (x ∷ xs) = up_to64 p (x ∷ xs)

-- a name is spelled as its kind, or as either
abbrev pub spelled_as : Kind → Name → Bool
spelled_as a_word n = is_word n.spelling
spelled_as a_number n = is_number n.spelling

abbrev pub well_named : Name → Bool
well_named n = is_name n.spelling

abbrev pub well_item : Item → Bool
well_item i = spelled_as i.kind i.name

-- a place of a family, and places of which none stands twice
abbrev pub is_place : Family → ℕ → Bool
is_place f i = ltb i (length (labels_of f))

abbrev pub none_twice : List ℕ → Bool
none_twice [] = true
none_twice (m ∷ ms) = all (λ x. not (eqb m x)) ms && none_twice ms

abbrev pub well_modes : Family → Modes → Bool
well_modes f all_modes = true
well_modes f (modes ms) = one_to64 (is_place f) ms && none_twice ms

-- a count under a limit is a 32-bit number too
abbrev pub within_limit : ℕ → ℕ → Bool
within_limit limit v = leb v 4294967295 && leb v limit

abbrev pub well_range : ℕ → ℕ → ℕ → Bool
well_range limit a b = leb a b && within_limit limit b

abbrev pub well_counts : ℕ → Counts → Bool
well_counts limit (count v) = within_limit limit v
well_counts limit (statement.range a b) = well_range limit a b
well_counts limit (counts vs) = one_to64 (within_limit limit) vs

abbrev pub well_operand : Operand → Bool
well_operand everyone = true
well_operand (statement.symbol n) = is_word n.spelling
well_operand (names ns) = one_to64 well_named ns

-- what may be left out
abbrev pub optional : {A : Type 0} → (A → Bool) → Option A → Bool
optional p none = true
optional p (some x) = p x

abbrev pub well_part : ℕ → Part → Bool
well_part limit (modes_part f ms) = well_modes f ms
well_part limit (counts_part c) = well_counts limit c
well_part limit estimated_part = true
well_part limit (operand_part p) = well_operand p
well_part limit (name_part n) = well_named n
well_part limit (values_part is) = one_to64 well_item is
well_part limit (operator_part op) = true
well_part limit omitted = true

-- the N of TRANSITS stands alone
abbrev pub well_transits : TransitCounts → Option Modes → Bool
well_transits estimated none = true
well_transits estimated (some ms) = false
well_transits (counted c) ms = true

-- the effects of a COVARIATE are `*` only after a `?`
abbrev pub well_effects : Bool → Modes → Bool
well_effects m all_modes = m
well_effects m (modes ms) = true

-- what a feature asks of its arguments besides
abbrev pub well_together : Feature → Bool
well_together (Absorption ms) = true
well_together (Elimination ms) = true
well_together (Peripherals c ms) = true
well_together (Transits c ms) = well_transits c ms
well_together (Lagtime ms) = true
well_together (Covariate m ps cs es op) = well_effects m es
well_together (Allometry n r) = spelled_as a_word n && optional (spelled_as a_number) r
well_together (DirectEffect ms) = true
well_together (EffectComp ms) = true
well_together (IndirectEffect ms ps) = true
well_together (Metabolite ms) = true
well_together (Iiv m ps es) = true
well_together (Iov m ps es) = true
well_together (Covariance m ls ps) = true

abbrev pub well_parts : ℕ → Parts → Bool
well_parts limit p = all (well_part limit) p.arguments

abbrev pub well_feature : ℕ → Feature → Bool
well_feature limit f = well_parts limit (feature_parts f) && well_together f

abbrev pub well_formed : ℕ → Statement → Bool
well_formed limit (Let n is) = is_word n.spelling && one_to64 well_item is
well_formed limit (feature f) = well_feature limit f

-- What is read of a statement before its end. A keyword may be any name: no statement has it.

abbrev pub well_arg : ℕ → Arg → Bool
well_arg limit (star o) = true
well_arg limit (plus o) = true
well_arg limit (symbol o n) = is_word n.spelling
well_arg limit (single i) = well_item i
well_arg limit (range o a b) = well_range limit a b
well_arg limit (array o is) = up_to64 well_item is

abbrev pub well_call : ℕ → Call → Bool
well_call limit (feature_call k m args) = all (well_arg limit) args
well_call limit (let_call n) = is_word n.spelling

abbrev pub well_state : ℕ → State → Bool
well_state limit (keyword k) = true
well_state limit (marked k) = true
well_state limit let_keyword = true
well_state limit let_open = true
well_state limit (let_named n) = is_word n.spelling
well_state limit (argument c) = well_call limit c
well_state limit (at_sign c p) = well_call limit c
well_state limit (number_read c n) = well_call limit c && is_number n.spelling
well_state limit (range_open c n) = well_call limit c && is_number n.spelling
well_state limit (array_open c p) = well_call limit c
well_state limit (item c p is) = well_call limit c && up_to64 well_item is
well_state limit (item_read c p is) = well_call limit c && up_to64 well_item is
well_state limit (argument_read c a) = well_call limit c && well_arg limit a

abbrev pub well_where : ℕ → Where → Bool
well_where limit between = true
well_where limit ended = true
well_where limit (inside s) = well_state limit s

-- Answers.

-- the numbers of faults
abbrev pub is_fault : ℕ → Bool
is_fault n = leb 1 n && leb n 21

-- a value that is accepted is as said, and what is refused is so by the number of a fault
pub data Gives {A : Type 0} (P : A → Type 0) : Answer A → Type 0 where
  given : {a : A} → P a → Gives P (accepted a)
  nothing : {n p : ℕ} → is_fault n ≡ true → Gives P (refused n p)
