-- Document 01, Examples: those of reading and printing that are marked to be proved, as one checked list, evaluated on the definitions. Then
-- texts of every feature, and the numbers of statements.
-- Assumes nothing.
use Prim.Native.Nat.{ℕ}
use Prim.Native.String.{String}
use mathlib.Core.Path.{◌≡◌, refl}
use mathlib.Core.List.{List, [], ◌∷◌, map}
use lib.ListN.{length}
use Rattle.text.specs.Bytes.{bytes}
use Rattle.tokens.specs.Token.{word, number}
use Rattle.tokens.specs.Class.{class_of}
use Rattle.tokens.specs.Lex.{fraction, number_rest, dots, front_of, follow, tokens_after}
use Rattle.tokens.specs.Next.{scanned}
use Rattle.counts.specs.Count.{count_of}
use Rattle.counts.specs.Decimal.{digits_in, digits_of}
use Rattle.labels.specs.Word.{same_word, find}
use Rattle.labels.specs.Label.{labels_of, keywords}
use Rattle.reading.specs.Statement.{Statement}
use Rattle.reading.specs.Answer.{Answer, accepted, refused}
use Rattle.reading.specs.Argument.{place_of, count_at, range_of, items_of, operand_of, mode_list, firsts, modes_of, count_list, counts_of}
use Rattle.reading.specs.Feature.{keyword_of, transits_of, explicit, operator_of, name_of, feature_of, build_feature}
use Rattle.reading.specs.Syntax.{opened, feature_made, let_made, closed, turn}
use Rattle.reading.specs.Read.{read_from, read_text}
use Rattle.reading.specs.Parts.{feature_parts, parts_of}
use Rattle.canonical.specs.Numbers.{numbers_of}
use Rattle.canonical.specs.Canonical.{name_shape, statement_shapes, text_shapes, canonical}

-- What becomes of a text: so many statements stand and print as another text, or it is refused by a number at a place.
pub data Outcome : Type 0 where
  stands : ℕ → List ℕ → Outcome
  refusal : ℕ → ℕ → Outcome

abbrev pub outcome : Answer (List Statement) → Outcome
outcome (accepted ss) = stands (length ss) (canonical ss)
outcome (refused n p) = refusal n p

pub record Example : Type 0 where
  pub text : String
  pub comes_to_lem : Outcome

infixl 30 ◌⟶◌
abbrev pub ◌⟶◌ : String → Outcome → Example
s ⟶ o = record { text = s; comes_to_lem = o }

abbrev prints : ℕ → String → Outcome
prints n s = stands n (bytes s)

abbrev pub examples : List Example
examples =
    ("" ⟶ prints 0 "")
    ∷ ("PERIPHERALS(64)" ⟶ prints 1 "PERIPHERALS(64)")
    ∷ ("PERIPHERALS(65)" ⟶ refusal 4 12)
    ∷ ("PERIPHERALS(2..2)" ⟶ prints 1 "PERIPHERALS(2..2)")
    ∷ ("PERIPHERALS(2..1)" ⟶ refusal 5 12)
    ∷ ("TRANSITS(n)" ⟶ prints 1 "TRANSITS(N)")
    ∷ ("TRANSITS(N,*)" ⟶ refusal 9 11)
    ∷ ("COVARIATE?(CL,WT,*,*)" ⟶ prints 1 "COVARIATE?(CL,WT,*)")
    ∷ ("COVARIATE(CL,WT,*)" ⟶ refusal 9 16)
    ∷ ("ABSORPTION?(*)" ⟶ refusal 7 0)
    ∷ ("ABSORPTION?($)" ⟶ refusal 2 12)
    ∷ ("FOO(" ⟶ refusal 3 4)
    ∷ (" peripherals( 007 ) # x" ⟶ prints 1 "PERIPHERALS(7)")
    ∷ ("absorption([fo,zo,fo]);Elimination(mm)\n\n;lagtime(*)" ⟶ prints 3 "ABSORPTION([FO,ZO]);ELIMINATION(MM);LAGTIME(*)")
    ∷ ("peripherals([03],[met]);PERIPHERALS(0000000000064,*)" ⟶ prints 2 "PERIPHERALS([3],MET);PERIPHERALS(64,*)")
    ∷ ("transits( 00 .. 064 )" ⟶ prints 1 "TRANSITS(0..64)")
    ∷ ("transits([1,01],nodepot)" ⟶ prints 1 "TRANSITS([1,1],NODEPOT)")
    ∷ ("covariate([CL,cl],@Pk,[LIN,Lin],+)" ⟶ prints 1 "COVARIATE([CL,cl],@Pk,lin,+)")
    ∷ ("allometry(WT, 70.50)" ⟶ prints 1 "ALLOMETRY(WT,70.50)")
    ∷ ("directeffect(step);effectcomp(*);metabolite(psc)" ⟶ prints 3 "DIRECTEFFECT(STEP);EFFECTCOMP(*);METABOLITE(PSC)")
    ∷ ("indirecteffect([Emax,linear],production)" ⟶ prints 1 "INDIRECTEFFECT([EMAX,LINEAR],PRODUCTION)")
    ∷ ("iiv?([1,CL],exp);iov([CL],re_log)" ⟶ prints 2 "IIV?([1,CL],EXP);IOV(CL,RE_LOG)")
    ∷ ("covariance?(*,@iiv)" ⟶ prints 1 "COVARIANCE?(*,@iiv)")
    ∷ ("iiv( * ,log);covariate?(*,*,pow)" ⟶ prints 2 "IIV(*,LOG);COVARIATE?(*,*,pow)")
    ∷ ("let(Pk,[CL]);LET(x,[1,y])" ⟶ prints 2 "LET(Pk,CL);LET(x,[1,y])")
    ∷ []

pub checked : map (λ e. outcome (read_text 64 (bytes e.text))) examples ≡ map (λ e. e.comes_to_lem) examples
unfolding read_text read_from turn opened feature_made let_made closed
    build_feature feature_of keyword_of transits_of explicit operator_of name_of
    place_of count_at range_of items_of operand_of mode_list firsts modes_of count_list counts_of
    count_of same_word find labels_of keywords
    scanned tokens_after follow front_of dots number_rest fraction class_of
    text_shapes statement_shapes parts_of feature_parts digits_of digits_in
checked = refl

-- "in a place for names a number stands as written": it is printed as a number, and a word as a word.
pub named_checked :
    map (λ w. name_shape (record { place = 3; spelling = bytes w })) ("70.5" ∷ "WT" ∷ []) ≡ number (bytes "70.5") ∷ word (bytes "WT") ∷ []
unfolding class_of number_rest fraction
named_checked = refl

-- The numbers of statements, each kind of argument among them.

pub record Numbered : Type 0 where
  pub source : String
  pub numbers : List ℕ

infixl 5 ◌⇒◌
abbrev pub ◌⇒◌ : String → List ℕ → Numbered
s ⇒ ns = record { source = s; numbers = ns }

abbrev numbers_in : Answer (List Statement) → List (List ℕ)
numbers_in (accepted ss) = map numbers_of ss
numbers_in (refused n p) = []

abbrev pub numbered : List Numbered
numbered =
    ("ABSORPTION([ZO,FO])" ⇒ 0 ∷ 0 ∷ 1 ∷ 2 ∷ 2 ∷ 1 ∷ [])
    ∷ ("PERIPHERALS(07,*)" ⇒ 2 ∷ 0 ∷ 2 ∷ 7 ∷ 0 ∷ [])
    ∷ ("PERIPHERALS(1..2)" ⇒ 2 ∷ 0 ∷ 3 ∷ 1 ∷ 2 ∷ 9 ∷ [])
    ∷ ("TRANSITS([1,2],NODEPOT)" ⇒ 3 ∷ 0 ∷ 4 ∷ 2 ∷ 1 ∷ 2 ∷ 1 ∷ 1 ∷ 1 ∷ [])
    ∷ ("TRANSITS(N)" ⇒ 3 ∷ 0 ∷ 5 ∷ 9 ∷ [])
    ∷ ("COVARIATE?(*,@Pk,*)" ⇒ 5 ∷ 1 ∷ 0 ∷ 6 ∷ 14 ∷ 2 ∷ 0 ∷ 10 ∷ [])
    ∷ ("COVARIATE([CL,V],WT,lin,+)" ⇒ 5 ∷ 0 ∷ 7 ∷ 2 ∷ 11 ∷ 2 ∷ 14 ∷ 1 ∷ 7 ∷ 1 ∷ 17 ∷ 2 ∷ 1 ∷ 1 ∷ 0 ∷ 11 ∷ [])
    ∷ ("ALLOMETRY(WT,70)" ⇒ 6 ∷ 0 ∷ 8 ∷ 10 ∷ 2 ∷ 8 ∷ 13 ∷ 2 ∷ [])
    ∷ ("IIV?(1,EXP)" ⇒ 11 ∷ 1 ∷ 7 ∷ 1 ∷ 5 ∷ 1 ∷ 1 ∷ 1 ∷ 0 ∷ [])
    ∷ ("LET(x,[1,y])" ⇒ 14 ∷ 0 ∷ 8 ∷ 4 ∷ 1 ∷ 12 ∷ 2 ∷ 1 ∷ 7 ∷ 1 ∷ 0 ∷ 9 ∷ 1 ∷ [])
    ∷ []

pub numbers_checked : map (λ e. numbers_in (read_text 64 (bytes e.source))) numbered ≡ map (λ e. e.numbers ∷ []) numbered
unfolding read_text read_from turn opened feature_made let_made closed
    build_feature feature_of keyword_of transits_of explicit operator_of name_of
    place_of count_at range_of items_of operand_of mode_list firsts modes_of count_list counts_of
    count_of same_word find labels_of keywords
    scanned tokens_after follow front_of dots number_rest fraction class_of
    numbers_of parts_of feature_parts
numbers_checked = refl
