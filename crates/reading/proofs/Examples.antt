-- Texts with what the definition makes of them, evaluated: each fault of reading with its place and what comes before it, document 01's
-- faults in their order; statements by value; statements by their parts.
-- Assumes nothing.
use Prim.Native.Nat.{ℕ, zero, suc}
use Prim.Native.String.{String}
use mathlib.Core.Bool.{true, false}
use mathlib.Core.Path.{◌≡◌, refl}
use mathlib.Core.List.{List, [], ◌∷◌, map}
use mathlib.Core.Option.{some, none}
use lib.ListN.{length}
use Rattle.text.specs.Bytes.{bytes, count_up}
use Rattle.text.specs.Lists.{gather}
use Rattle.tokens.specs.Class.{class_of}
use Rattle.tokens.specs.Token.{separator, finish, ◌▸◌}
use Rattle.tokens.specs.Lex.{fraction, number_rest, dots, front_of, follow, tokens_after, tokens}
use Rattle.tokens.specs.Next.{scanned}
use Rattle.counts.specs.Count.{count_of}
use Rattle.counts.specs.Decimal.{digits_in}
use Rattle.labels.specs.declared.Family.TheVariants.{
  AbsorptionMode,
  EliminationMode,
  PeripheralKind,
  DepotMode,
  LagtimeMode,
  CovariateEffect,
  PdMode,
  ProductionMode,
  MetaboliteMode,
  VariabilityEffect,
  VariabilityLevel,
}
use Rattle.labels.specs.Word.{same_word, find}
use Rattle.labels.specs.Label.{labels_of, keywords}
use Rattle.reading.specs.Statement.{
  Name,
  Kind,
  a_word,
  a_number,
  Item,
  Modes,
  all_modes,
  modes,
  count,
  range,
  counts,
  estimated,
  counted,
  everyone,
  symbol,
  names,
  multiply,
  add,
  Absorption,
  Elimination,
  Peripherals,
  Transits,
  Lagtime,
  Covariate,
  Allometry,
  DirectEffect,
  EffectComp,
  IndirectEffect,
  Metabolite,
  Iiv,
  Iov,
  Covariance,
  Statement,
  Let,
  feature,
}
use Rattle.reading.specs.Parts.{
  modes_part,
  counts_part,
  estimated_part,
  operand_part,
  name_part,
  values_part,
  operator_part,
  omitted,
  Parts,
  taken,
  feature_parts,
  parts_of,
}
use Rattle.reading.specs.Answer.{Answer, accepted, refused, refused_if}
use Rattle.reading.specs.Calls.{counting, stating}
use Rattle.reading.specs.Argument.{place_of, count_at, range_of, items_of, operand_of, mode_list, firsts, modes_of, count_list, counts_of}
use Rattle.reading.specs.Feature.{keyword_of, transits_of, explicit, operator_of, name_of, feature_of, build_feature}
use Rattle.reading.specs.Syntax.{feature_call, argument, name, item_as, opened, feature_made, let_made, closed, turn}
use Rattle.reading.specs.Read.{between, ended, read_from, read_text}
use Rattle.reading.specs.One.{One, whole, halted, read_one}

-- What becomes of a text: so many statements stand, or it is refused by a number at a place.
pub data Outcome : Type 0 where
  stands : ℕ → Outcome
  refusal : ℕ → ℕ → Outcome

abbrev outcome : Answer (List Statement) → Outcome
outcome (accepted ss) = stands (length ss)
outcome (refused n p) = refusal n p

pub record Example : Type 0 where
  pub text : String
  pub comes_to_lem : Outcome

infixl 30 ◌⟶◌
abbrev ◌⟶◌ : String → Outcome → Example
s ⟶ o = record { text = s; comes_to_lem = o }

abbrev pub faults : List Example
faults =
    -- 1 and 11 at the limits are below. 2: a byte that starts no token, before every fault that stands in front of it
    ("ABSORPTION?($)" ⟶ refusal 2 12)
    ∷ ("FOO($" ⟶ refusal 2 4)
    ∷ ("PERIPHERALS(65);%" ⟶ refusal 2 16)
    ∷ ("1." ⟶ refusal 2 1)
    -- 3: a token that is not allowed, or the text's end
    ∷ ("FOO(" ⟶ refusal 3 4)
    ∷ ("*" ⟶ refusal 3 0)
    ∷ ("LAGTIME ON" ⟶ refusal 3 8)
    ∷ ("LAGTIME(ON,)" ⟶ refusal 3 11)
    ∷ ("LAGTIME(ON) LAGTIME(ON)" ⟶ refusal 3 12)
    -- the text's end, not the statement's
    ∷ (";LAGTIME(" ⟶ refusal 3 9)
    ∷ ("LAGTIME(ON);LAGTIME(" ⟶ refusal 3 20)
    ∷ ("IIV(@1,EXP)" ⟶ refusal 3 5)
    ∷ ("IIV([CL,],EXP)" ⟶ refusal 3 8)
    ∷ ("IIV([CL;V],EXP)" ⟶ refusal 3 7)
    ∷ ("PERIPHERALS(1..x)" ⟶ refusal 3 15)
    ∷ ("LET?(A,B)" ⟶ refusal 3 3)
    ∷ ("LET(1,B)" ⟶ refusal 3 4)
    ∷ ("LET(A)" ⟶ refusal 3 5)
    ∷ ("LET(A,B,C)" ⟶ refusal 3 7)
    -- of each state the tokens that it does not allow: where a statement starts, after a keyword, after its `?`, in a LET, where an argument
    -- starts, after `@`, after a number, after `..`, in an array, after its entry, after an argument
    ∷ ("1(ON)" ⟶ refusal 3 0)
    ∷ ("LAGTIME 1" ⟶ refusal 3 8)
    ∷ ("LAGTIME)" ⟶ refusal 3 7)
    ∷ ("IIV?CL" ⟶ refusal 3 4)
    ∷ ("IIV?1" ⟶ refusal 3 4)
    ∷ ("IIV??(CL,EXP)" ⟶ refusal 3 4)
    ∷ ("LET A" ⟶ refusal 3 4)
    ∷ ("LET 1" ⟶ refusal 3 4)
    ∷ ("LET(*,B)" ⟶ refusal 3 4)
    ∷ ("LET((A,B)" ⟶ refusal 3 4)
    ∷ ("LET(A B)" ⟶ refusal 3 6)
    ∷ ("LET(A 1)" ⟶ refusal 3 6)
    ∷ ("LET(A,)" ⟶ refusal 3 6)
    ∷ ("LAGTIME(,ON)" ⟶ refusal 3 8)
    ∷ ("IIV(@*,EXP)" ⟶ refusal 3 5)
    ∷ ("IIV(@],EXP)" ⟶ refusal 3 5)
    ∷ ("PERIPHERALS(1 x)" ⟶ refusal 3 14)
    ∷ ("PERIPHERALS(1 2)" ⟶ refusal 3 14)
    ∷ ("PERIPHERALS(1(" ⟶ refusal 3 13)
    ∷ ("PERIPHERALS(1..*)" ⟶ refusal 3 15)
    ∷ ("PERIPHERALS(1..()" ⟶ refusal 3 15)
    ∷ ("IIV([,CL],EXP)" ⟶ refusal 3 5)
    ∷ ("IIV([CL V],EXP)" ⟶ refusal 3 8)
    ∷ ("IIV([CL 1],EXP)" ⟶ refusal 3 8)
    ∷ ("LAGTIME(ON OFF)" ⟶ refusal 3 11)
    ∷ ("LAGTIME(ON 1)" ⟶ refusal 3 11)
    ∷ ("LAGTIME(ON(" ⟶ refusal 3 10)
    -- 4: a count; 5: a range backwards; both ends before that, and a range before its keyword
    ∷ ("PERIPHERALS(65)" ⟶ refusal 4 12)
    ∷ ("PERIPHERALS(1.0)" ⟶ refusal 4 12)
    ∷ ("PERIPHERALS(65..66)" ⟶ refusal 4 12)
    ∷ ("PERIPHERALS(66..65)" ⟶ refusal 4 12)
    ∷ ("PERIPHERALS(2..65)" ⟶ refusal 4 15)
    ∷ ("PERIPHERALS([1,65,a])" ⟶ refusal 4 15)
    ∷ ("PERIPHERALS([65,66])" ⟶ refusal 4 13)
    ∷ ("TRANSITS(4294967296)" ⟶ refusal 4 9)
    ∷ ("FOO(1..65)" ⟶ refusal 4 7)
    ∷ ("PERIPHERALS(2..1)" ⟶ refusal 5 12)
    ∷ ("FOO(2..1)" ⟶ refusal 5 4)
    -- 6: the keyword, before the number of arguments, 8; the arguments from left to right; 7, the `?`, last
    ∷ ("FOO(1,2,3)" ⟶ refusal 6 0)
    ∷ ("LAGTIME(ON);FOO?(ON)" ⟶ refusal 6 12)
    ∷ ("ABSORPTION?()" ⟶ refusal 8 0)
    ∷ ("PERIPHERALS(x,MET,*)" ⟶ refusal 8 0)
    ∷ ("COVARIATE(CL,WT)" ⟶ refusal 8 0)
    ∷ ("COVARIATE(CL,WT,lin,+,+)" ⟶ refusal 8 0)
    ∷ ("IIV(CL)" ⟶ refusal 8 0)
    ∷ ("LAGTIME(ON,OFF)" ⟶ refusal 8 0)
    ∷ ("PERIPHERALS()" ⟶ refusal 8 0)
    ∷ ("IIV()" ⟶ refusal 8 0)
    ∷ ("IIV(CL,EXP,ADD)" ⟶ refusal 8 0)
    ∷ ("COVARIATE()" ⟶ refusal 8 0)
    ∷ ("COVARIATE(CL)" ⟶ refusal 8 0)
    ∷ ("LAGTIME?(NO)" ⟶ refusal 10 9)
    ∷ ("PERIPHERALS?(65)" ⟶ refusal 4 13)
    ∷ ("ABSORPTION?(*)" ⟶ refusal 7 0)
    ∷ ("ALLOMETRY?(WT)" ⟶ refusal 7 0)
    ∷ ("PERIPHERALS?(1)" ⟶ refusal 7 0)
    ∷ ("TRANSITS?(N)" ⟶ refusal 7 0)
    ∷ ("INDIRECTEFFECT?(*,*)" ⟶ refusal 7 0)
    ∷ ("IIV(+,NO)" ⟶ refusal 9 4)
    ∷ ("IIV(CL,NO)" ⟶ refusal 10 7)
    ∷ ("PERIPHERALS(x,NO)" ⟶ refusal 9 12)
    ∷ ("TRANSITS(x,NO)" ⟶ refusal 9 9)
    ∷ ("COVARIATE(+,+,NO,1)" ⟶ refusal 9 10)
    ∷ ("COVARIATE(CL,+,NO,1)" ⟶ refusal 9 13)
    ∷ ("COVARIATE(CL,WT,NO,1)" ⟶ refusal 10 16)
    ∷ ("ALLOMETRY(1,x)" ⟶ refusal 9 10)
    ∷ ("INDIRECTEFFECT(NO,NO)" ⟶ refusal 10 15)
    ∷ ("COVARIANCE(NO,+)" ⟶ refusal 10 11)
    -- 9: an argument of a wrong kind, and 10: an unknown mode; of an array of counts a word is refused at the array, a number at itself
    ∷ ("ABSORPTION(1)" ⟶ refusal 9 11)
    ∷ ("ABSORPTION([])" ⟶ refusal 9 11)
    ∷ ("ABSORPTION([1])" ⟶ refusal 10 12)
    ∷ ("ABSORPTION([FO,XX])" ⟶ refusal 10 15)
    ∷ ("ABSORPTION([XX,YY])" ⟶ refusal 10 12)
    ∷ ("ABSORPTION(+)" ⟶ refusal 9 11)
    ∷ ("ABSORPTION(@A)" ⟶ refusal 9 11)
    ∷ ("ABSORPTION(1..2)" ⟶ refusal 9 11)
    ∷ ("PERIPHERALS(*)" ⟶ refusal 9 12)
    ∷ ("PERIPHERALS(+)" ⟶ refusal 9 12)
    ∷ ("PERIPHERALS(@A)" ⟶ refusal 9 12)
    ∷ ("PERIPHERALS(x)" ⟶ refusal 9 12)
    ∷ ("PERIPHERALS([1,a])" ⟶ refusal 9 12)
    ∷ ("PERIPHERALS([])" ⟶ refusal 9 12)
    ∷ ("PERIPHERALS([65,a])" ⟶ refusal 4 13)
    ∷ ("PERIPHERALS([a,65])" ⟶ refusal 9 12)
    ∷ ("TRANSITS(N,*)" ⟶ refusal 9 11)
    ∷ ("TRANSITS(N,+)" ⟶ refusal 9 11)
    ∷ ("TRANSITS(N,@A)" ⟶ refusal 9 11)
    ∷ ("TRANSITS(N,DEPOT)" ⟶ refusal 9 11)
    ∷ ("TRANSITS(N,1..2)" ⟶ refusal 9 11)
    ∷ ("TRANSITS(N,[DEPOT])" ⟶ refusal 9 11)
    ∷ ("TRANSITS(*)" ⟶ refusal 9 9)
    ∷ ("TRANSITS(+)" ⟶ refusal 9 9)
    ∷ ("TRANSITS(@N)" ⟶ refusal 9 9)
    ∷ ("TRANSITS([N])" ⟶ refusal 9 9)
    ∷ ("COVARIATE(CL,WT,*)" ⟶ refusal 9 16)
    ∷ ("COVARIATE(CL,WT,*,1)" ⟶ refusal 9 16)
    ∷ ("COVARIATE(CL,WT,lin,1)" ⟶ refusal 9 20)
    ∷ ("COVARIATE(CL,WT,lin,@A)" ⟶ refusal 9 20)
    ∷ ("COVARIATE(CL,WT,lin,1..2)" ⟶ refusal 9 20)
    ∷ ("COVARIATE(CL,WT,lin,[])" ⟶ refusal 9 20)
    ∷ ("COVARIATE(CL,WT,lin,[A])" ⟶ refusal 9 20)
    ∷ ("COVARIATE([],WT,lin)" ⟶ refusal 9 10)
    ∷ ("IIV(1..2,EXP)" ⟶ refusal 9 4)
    ∷ ("ALLOMETRY(1)" ⟶ refusal 9 10)
    ∷ ("ALLOMETRY(*)" ⟶ refusal 9 10)
    ∷ ("ALLOMETRY(+)" ⟶ refusal 9 10)
    ∷ ("ALLOMETRY(@A)" ⟶ refusal 9 10)
    ∷ ("ALLOMETRY(1..2)" ⟶ refusal 9 10)
    ∷ ("ALLOMETRY([A])" ⟶ refusal 9 10)
    ∷ ("ALLOMETRY(WT,x)" ⟶ refusal 9 13)
    ∷ ("LET(A,*)" ⟶ refusal 9 6)
    ∷ ("LET(A,+)" ⟶ refusal 9 6)
    ∷ ("LET(A,1..2)" ⟶ refusal 9 6)
    ∷ ("LET(A,@B)" ⟶ refusal 9 6)
    ∷ ("LET(A,[])" ⟶ refusal 9 6)
    -- 11: a 65th entry, before the keyword and before an entry that is none
    ∷ ("LET(A,[B,B,B,B,B,B,B,B,B,B,B,B,B,B,B,B,B,B,B,B,B,B,B,B,B,B,B,B,B,B,B,B,B,B,B,B,B,B,B,B,B,B,B,B,B,B,B,B,B,B,B,B,B,B,B,B,B,B,B,B,B,B,B,B,B])" ⟶ refusal 11 135)
    ∷ ("FOO([B,B,B,B,B,B,B,B,B,B,B,B,B,B,B,B,B,B,B,B,B,B,B,B,B,B,B,B,B,B,B,B,B,B,B,B,B,B,B,B,B,B,B,B,B,B,B,B,B,B,B,B,B,B,B,B,B,B,B,B,B,B,B,B,B])" ⟶ refusal 11 133)
    ∷ ("FOO([B,B,B,B,B,B,B,B,B,B,B,B,B,B,B,B,B,B,B,B,B,B,B,B,B,B,B,B,B,B,B,B,B,B,B,B,B,B,B,B,B,B,B,B,B,B,B,B,B,B,B,B,B,B,B,B,B,B,B,B,B,B,B,B,*])" ⟶ refusal 3 133)
    ∷ []

pub faults_checked : map (λ e. outcome (read_text 64 (bytes e.text))) faults ≡ map (λ e. e.comes_to_lem) faults
unfolding read_text read_from turn opened feature_made let_made closed
    build_feature feature_of keyword_of transits_of explicit operator_of name_of
    place_of count_at range_of items_of operand_of mode_list firsts modes_of count_list counts_of
    count_of same_word find labels_of keywords
    scanned tokens_after follow front_of dots number_rest fraction class_of digits_in
faults_checked = refl

-- The limits of a text.
abbrev blanks : ℕ → List ℕ
blanks zero = []
blanks (suc n) = 32 ∷ blanks n

pub too_long : read_text 64 (blanks 16385) ≡ refused 1 0
unfolding read_text
too_long = refl

-- 16,384 bytes are not too long: the byte that starts no token is what is said.
pub long_enough : read_text 64 (36 ∷ blanks 16383) ≡ refused 2 0
unfolding read_text
    scanned tokens_after follow front_of dots number_rest fraction class_of digits_in
long_enough = refl

-- 21 comes before 1.
pub too_high-first : read_text 257 (blanks 16385) ≡ refused 21 0
unfolding read_text
too_high-first = refl

-- Document 02, P1: a ceiling and a text. Every count is held to the ceiling: a count alone, both ends of a range wherever one stands, the
-- entries of an array; names that are numbers, and ALLOMETRY's reference, are no counts.
pub record Ceiling : Type 0 where
  pub ceiling : ℕ
  pub text : String
  pub comes_to_lem : Outcome

infixl 30 ◌under◌gives◌
abbrev ◌under◌gives◌ : String → ℕ → Outcome → Ceiling
s under c gives o = record { ceiling = c; text = s; comes_to_lem = o }

abbrev pub ceilings : List Ceiling
ceilings =
    ("" under 257 gives refusal 21 0)
    ∷ ("$" under 257 gives refusal 21 0)
    ∷ ("" under 4294967295 gives refusal 21 0)
    ∷ ("" under 256 gives stands 0)
    ∷ ("PERIPHERALS(256)" under 256 gives stands 1)
    ∷ ("PERIPHERALS(257)" under 256 gives refusal 4 12)
    ∷ ("PERIPHERALS(256)" under 255 gives refusal 4 12)
    ∷ ("PERIPHERALS(65)" under 65 gives stands 1)
    ∷ ("PERIPHERALS(64)" under 63 gives refusal 4 12)
    ∷ ("PERIPHERALS(0)" under 0 gives stands 1)
    ∷ ("PERIPHERALS(1)" under 0 gives refusal 4 12)
    ∷ ("PERIPHERALS(0..3)" under 3 gives stands 1)
    ∷ ("PERIPHERALS(0..4)" under 3 gives refusal 4 15)
    ∷ ("PERIPHERALS(4..5)" under 3 gives refusal 4 12)
    ∷ ("PERIPHERALS([3,0,3])" under 3 gives stands 1)
    ∷ ("TRANSITS([3,0,4],*)" under 3 gives refusal 4 14)
    ∷ ("TRANSITS(N)" under 0 gives stands 1)
    ∷ ("LET(A,0..1)" under 0 gives refusal 4 9)
    ∷ ("LET(A,0..1)" under 1 gives refusal 9 6)
    ∷ ("IIV(1..1,EXP)" under 0 gives refusal 4 4)
    ∷ ("FOO(3..4)" under 3 gives refusal 4 7)
    ∷ ("LET(A,[4,500])" under 3 gives stands 1)
    ∷ ("IIV([4,CL],EXP);ALLOMETRY(WT,70)" under 3 gives stands 2)
    ∷ []

pub ceilings_checked : map (λ e. outcome (read_text e.ceiling (bytes e.text))) ceilings ≡ map (λ e. e.comes_to_lem) ceilings
unfolding read_text read_from turn opened feature_made let_made closed
    build_feature feature_of keyword_of transits_of explicit operator_of name_of
    place_of count_at range_of items_of operand_of mode_list firsts modes_of count_list counts_of
    count_of same_word find labels_of keywords
    scanned tokens_after follow front_of dots number_rest fraction class_of digits_in
ceilings_checked = refl

-- After 256 statements a token but a separator is refused by 11, "never 3"; after 255 it is not.
abbrev after : ℕ → String → Outcome
after n s = outcome (read_from 64 (length (bytes s)) n between (tokens (bytes s)))

abbrev behind : ℕ → String → Outcome
behind n s = outcome (read_from 64 (length (bytes s)) n ended (tokens (bytes s)))

pub many_checked :
    (after 255 "LAGTIME(ON)" ∷ after 255 ";LAGTIME(ON);LAGTIME(ON)" ∷ after 256 "" ∷ after 256 ";\n;" ∷ after 256 ";(" ∷ after 255 ";("
    ∷ behind 256 " (" ∷ behind 255 " (" ∷ behind 256 "" ∷ behind 256 ";(" ∷ behind 0 ";$" ∷ [])
    ≡ (stands 1 ∷ refusal 11 13 ∷ stands 0 ∷ stands 0 ∷ refusal 11 1 ∷ refusal 3 1 ∷ refusal 11 1 ∷ refusal 3 1
    ∷ stands 0 ∷ refusal 11 1 ∷ refusal 2 1 ∷ [])
unfolding read_text read_from turn opened feature_made let_made closed
    build_feature feature_of keyword_of transits_of explicit operator_of name_of
    place_of count_at range_of items_of operand_of mode_list firsts modes_of count_list counts_of
    count_of same_word find labels_of keywords
    scanned tokens_after follow front_of dots number_rest fraction class_of digits_in
many_checked = refl

-- From the start of a text 256 statements stand, and a 257th is refused where it starts.
abbrev copies : ℕ → String → List ℕ
copies n s = gather (λ i. bytes s) (count_up 0 n)

pub all_256 : outcome (read_text 64 (copies 256 "LET(A,B);")) ∷ outcome (read_text 64 (copies 257 "LET(A,B);")) ∷ [] ≡ stands 256 ∷ refusal 11 2304 ∷ []
unfolding read_text read_from turn opened let_made closed
    items_of
    same_word keywords
    scanned tokens_after follow front_of dots number_rest fraction class_of
all_256 = refl

-- Statements by value.
pub record Reading : Type 0 where
  pub text : String
  pub statements : List Statement

abbrev item : ℕ → String → Item
item o s = item_as a_word o (bytes s)

abbrev numeral : ℕ → String → Item
numeral o s = item_as a_number o (bytes s)

abbrev as_written : ℕ → String → Name
as_written o s = name o (bytes s)

infixl 30 ◌reads◌
abbrev ◌reads◌ : String → List Statement → Reading
s reads ss = record { text = s; statements = ss }

abbrev pub readings : List Reading
readings =
    ("" reads [])
    ∷ (" ;\n# no ( $\n;" reads [])
    ∷ ("absorption([fo,ZO,FO])" reads (feature (Absorption (modes (1 ∷ 2 ∷ []))) ∷ []))
    ∷ ("ELIMINATION(*);LAGTIME(on)" reads (feature (Elimination all_modes) ∷ feature (Lagtime (modes (1 ∷ []))) ∷ []))
    ∷ ("ELIMINATION(MIX-FO-MM)" reads (feature (Elimination (modes (3 ∷ []))) ∷ []))
    ∷ ("PERIPHERALS(0000000000064)" reads (feature (Peripherals (count 64) none) ∷ []))
    ∷ ("PERIPHERALS(2..2,MET)" reads (feature (Peripherals (range 2 2) (some (modes (1 ∷ [])))) ∷ []))
    ∷ ("TRANSITS([3,0,3],*)" reads (feature (Transits (counted (counts (3 ∷ 0 ∷ 3 ∷ []))) (some all_modes)) ∷ []))
    ∷ ("TRANSITS(n)" reads (feature (Transits estimated none) ∷ []))
    ∷ ("TRANSITS(1..2,NODEPOT)" reads (feature (Transits (counted (range 1 2)) (some (modes (1 ∷ [])))) ∷ []))
    ∷ ("COVARIATE?(*,@PK,*,*)" reads (feature (Covariate true everyone (symbol (as_written 14 "PK")) all_modes multiply) ∷ []))
    ∷ ("COVARIATE(CL,*,lin)" reads (feature (Covariate false (names (as_written 10 "CL" ∷ [])) everyone (modes (0 ∷ [])) multiply) ∷ []))
    ∷ ("COVARIATE([CL,CL],70,exp,+)"
    reads (feature
    (Covariate false (names (as_written 11 "CL" ∷ as_written 14 "CL" ∷ [])) (names (as_written 18 "70" ∷ [])) (modes (2 ∷ [])) add)
    ∷ []))
    ∷ ("ALLOMETRY(Wt,70.5)" reads (feature (Allometry (as_written 10 "Wt") (some (as_written 13 "70.5"))) ∷ []))
    ∷ ("DIRECTEFFECT(STEP)" reads (feature (DirectEffect (modes (3 ∷ []))) ∷ []))
    ∷ ("EFFECTCOMP(*)" reads (feature (EffectComp all_modes) ∷ []))
    ∷ ("EFFECTCOMP(LOGLIN)" reads (feature (EffectComp (modes (4 ∷ []))) ∷ []))
    ∷ ("INDIRECTEFFECT([EMAX,LINEAR],DEGRADATION)" reads (feature (IndirectEffect (modes (1 ∷ 0 ∷ [])) (modes (1 ∷ []))) ∷ []))
    ∷ ("METABOLITE(PSC)" reads (feature (Metabolite (modes (1 ∷ []))) ∷ []))
    ∷ ("IIV?(CL,EXP)" reads (feature (Iiv true (names (as_written 5 "CL" ∷ [])) (modes (0 ∷ []))) ∷ []))
    ∷ ("IOV(CL,ADD)" reads (feature (Iov false (names (as_written 4 "CL" ∷ [])) (modes (1 ∷ []))) ∷ []))
    ∷ ("COVARIANCE(IOV,@X)" reads (feature (Covariance false (modes (1 ∷ [])) (symbol (as_written 16 "X"))) ∷ []))
    ∷ ("let(Let,[1,a,2.5])" reads (Let (as_written 4 "Let") (numeral 9 "1" ∷ item 11 "a" ∷ numeral 13 "2.5" ∷ []) ∷ []))
    ∷ ("LET(A,B)" reads (Let (as_written 4 "A") (item 6 "B" ∷ []) ∷ []))
    ∷ []

pub readings_checked : map (λ e. read_text 64 (bytes e.text)) readings ≡ map (λ e. accepted e.statements) readings
unfolding read_text read_from turn opened feature_made let_made closed
    build_feature feature_of keyword_of transits_of explicit operator_of name_of
    place_of count_at range_of items_of operand_of mode_list firsts modes_of count_list counts_of
    count_of same_word find labels_of keywords
    scanned tokens_after follow front_of dots number_rest fraction class_of digits_in
readings_checked = refl

-- Statements by their parts.
pub record Taken : Type 0 where
  pub text : String
  pub parts : Parts

infixl 30 ◌has◌
abbrev ◌has◌ : String → Parts → Taken
s has p = record { text = s; parts = p }

abbrev the_parts : Answer (List Statement) → List Parts
the_parts (accepted ss) = map parts_of ss
the_parts (refused n p) = []

abbrev pub apart : List Taken
apart =
    ("ABSORPTION(FO)" has taken 0 false (modes_part AbsorptionMode (modes (1 ∷ [])) ∷ []))
    ∷ ("ELIMINATION(FO)" has taken 1 false (modes_part EliminationMode (modes (0 ∷ [])) ∷ []))
    ∷ ("PERIPHERALS(1)" has taken 2 false (counts_part (count 1) ∷ omitted ∷ []))
    ∷ ("PERIPHERALS(1,DRUG)" has taken 2 false (counts_part (count 1) ∷ modes_part PeripheralKind (modes (0 ∷ [])) ∷ []))
    ∷ ("TRANSITS(N)" has taken 3 false (estimated_part ∷ omitted ∷ []))
    ∷ ("TRANSITS(1,DEPOT)" has taken 3 false (counts_part (count 1) ∷ modes_part DepotMode (modes (0 ∷ [])) ∷ []))
    ∷ ("LAGTIME(*)" has taken 4 false (modes_part LagtimeMode all_modes ∷ []))
    ∷ ("COVARIATE?(CL,*,cat,+)"
    has taken 5 true
    (operand_part (names (as_written 11 "CL" ∷ [])) ∷ operand_part everyone ∷ modes_part CovariateEffect (modes (4 ∷ [])) ∷ operator_part add ∷ []))
    ∷ ("ALLOMETRY(WT,70)" has taken 6 false (name_part (as_written 10 "WT") ∷ name_part (as_written 13 "70") ∷ []))
    ∷ ("ALLOMETRY(WT)" has taken 6 false (name_part (as_written 10 "WT") ∷ omitted ∷ []))
    ∷ ("DIRECTEFFECT(*)" has taken 7 false (modes_part PdMode all_modes ∷ []))
    ∷ ("EFFECTCOMP(*)" has taken 8 false (modes_part PdMode all_modes ∷ []))
    ∷ ("INDIRECTEFFECT(*,DEGRADATION)" has taken 9 false (modes_part PdMode all_modes ∷ modes_part ProductionMode (modes (1 ∷ [])) ∷ []))
    ∷ ("METABOLITE(*)" has taken 10 false (modes_part MetaboliteMode all_modes ∷ []))
    ∷ ("IIV(*,EXP)" has taken 11 false (operand_part everyone ∷ modes_part VariabilityEffect (modes (0 ∷ [])) ∷ []))
    ∷ ("IOV?(@X,*)" has taken 12 true (operand_part (symbol (as_written 6 "X")) ∷ modes_part VariabilityEffect all_modes ∷ []))
    ∷ ("COVARIANCE?(IOV,*)" has taken 13 true (modes_part VariabilityLevel (modes (1 ∷ [])) ∷ operand_part everyone ∷ []))
    ∷ ("LET(A,[B,7])" has taken 14 false (name_part (as_written 4 "A") ∷ values_part (item 7 "B" ∷ numeral 9 "7" ∷ []) ∷ []))
    ∷ []

pub apart_checked : map (λ e. the_parts (read_text 64 (bytes e.text))) apart ≡ map (λ e. e.parts ∷ []) apart
unfolding read_text read_from turn opened feature_made let_made closed
    build_feature feature_of keyword_of transits_of explicit operator_of name_of
    place_of count_at range_of items_of operand_of mode_list firsts modes_of count_list counts_of
    count_of same_word find labels_of keywords
    scanned tokens_after follow front_of dots number_rest fraction class_of digits_in
    parts_of feature_parts
apart_checked = refl

-- What Count and Statement answer: how many statements, the one at an index, 20 at an index that is not below the count, and a refusal of reading
-- before it.
pub counting_checked :
    map (λ t. counting 64 (bytes t)) ("" ∷ "LAGTIME(ON);LAGTIME(OFF)" ∷ "LAGTIME(ON" ∷ []) ≡ accepted 0 ∷ accepted 2 ∷ refused 3 10 ∷ []
unfolding read_text read_from turn opened feature_made let_made closed
    build_feature feature_of keyword_of transits_of explicit operator_of name_of
    place_of count_at range_of items_of operand_of mode_list firsts modes_of count_list counts_of
    count_of same_word find labels_of keywords
    scanned tokens_after follow front_of dots number_rest fraction class_of digits_in
counting_checked = refl

pub stating_checked :
    map (stating 64 (bytes "LAGTIME(ON);LAGTIME(OFF)")) (0 ∷ 1 ∷ 2 ∷ 9 ∷ [])
    ≡ accepted (feature (Lagtime (modes (1 ∷ [])))) ∷ accepted (feature (Lagtime (modes (0 ∷ [])))) ∷ refused 20 2 ∷ refused 20 9 ∷ []
unfolding read_text read_from turn opened feature_made let_made closed
    build_feature feature_of keyword_of transits_of explicit operator_of name_of
    place_of count_at range_of items_of operand_of mode_list firsts modes_of count_list counts_of
    count_of same_word find labels_of keywords
    scanned tokens_after follow front_of dots number_rest fraction class_of digits_in
stating_checked = refl

pub stating-refused : stating 64 (bytes "LAGTIME(ON") 5 ≡ refused 3 10
unfolding read_text read_from turn opened feature_made let_made closed
    build_feature feature_of keyword_of transits_of explicit operator_of name_of
    place_of count_at range_of items_of operand_of mode_list firsts modes_of count_list counts_of
    count_of same_word find labels_of keywords
    scanned tokens_after follow front_of dots number_rest fraction class_of digits_in
stating-refused = refl

-- A test that refuses, by its number and its place, and what passes it.
pub tested : map (λ t. refused_if {A = ℕ} t 3 7 (accepted 1)) (true ∷ false ∷ []) ≡ refused 3 7 ∷ accepted 1 ∷ []
tested = refl

-- One statement alone, behind `LAGTIME(`: "Statements are read to their `)`", and what follows is left. 3 stands at the text's end, 2 at its byte,
-- and any other refusal where it is.
abbrev lagtime : String → One
lagtime s =
    read_one 64 (length (bytes s)) (argument (feature_call (as_written 0 "LAGTIME") false [])) (tokens (bytes s))

pub alone_checked :
    map lagtime ("ON)" ∷ "ON);" ∷ "ON" ∷ "ON $" ∷ "NO)" ∷ [])
    ≡ whole (feature (Lagtime (modes (1 ∷ [])))) finish
    ∷ whole (feature (Lagtime (modes (1 ∷ [])))) (record { place = 3; shape = separator } ▸ finish)
    ∷ halted 3 2
    ∷ halted 2 3
    ∷ halted 10 0
    ∷ []
unfolding read_one turn feature_made closed
    build_feature feature_of keyword_of
    place_of mode_list firsts modes_of
    same_word find labels_of keywords
    scanned tokens_after follow front_of dots number_rest fraction class_of digits_in
alone_checked = refl
