-- The numbers of statements of every feature, and of all statements of a text, evaluated.
-- Assumes nothing.
use Prim.Native.Nat.{ℕ}
use Prim.Native.String.{String}
use mathlib.Core.Path.{◌≡◌, refl}
use mathlib.Core.List.{List, [], ◌∷◌, map}
use Rattle.text.specs.Bytes.{bytes}
use Rattle.tokens.specs.Class.{class_of}
use Rattle.tokens.specs.Lex.{fraction, number_rest, dots, front_of, follow, tokens_after}
use Rattle.tokens.specs.Next.{scanned}
use Rattle.counts.specs.Count.{count_of}
use Rattle.counts.specs.Decimal.{digits_in, digits_of}
use Rattle.labels.specs.Word.{same_word, find}
use Rattle.labels.specs.Label.{labels_of, keywords}
use Rattle.reading.specs.Statement.{Statement}
use Rattle.reading.specs.Answer.{Answer, accepted, refused}
use Rattle.reading.specs.Argument.{place_of, count_at, range_of, items_of, operand_of, mode_list, firsts, modes_of, count_list, counts_of}
use Rattle.reading.specs.Feature.{keyword_of, transits_of, explicit, operator_of, name_of, feature_of, build_feature}
use Rattle.reading.specs.Syntax.{opened, feature_made, let_made, closed, turn}
use Rattle.reading.specs.Read.{read_from, read_text}
use Rattle.reading.specs.Parts.{feature_parts, parts_of}
use Rattle.canonical.specs.Numbers.{numbers_of, all_numbers_of, all_numbering}

pub record Example : Type 0 where
  pub text : String
  pub numbers : List ℕ

infixl 30 ◌⟶◌
abbrev ◌⟶◌ : String → List ℕ → Example
s ⟶ ns = record { text = s; numbers = ns }

abbrev pub examples : List Example
examples =
    ("ABSORPTION([zo,FO,zo])" ⟶ 0 ∷ 0 ∷ 1 ∷ 2 ∷ 2 ∷ 1 ∷ [])
    ∷ ("ELIMINATION(*)" ⟶ 1 ∷ 0 ∷ 0 ∷ [])
    ∷ ("PERIPHERALS(007)" ⟶ 2 ∷ 0 ∷ 2 ∷ 7 ∷ 9 ∷ [])
    ∷ ("PERIPHERALS(2..4,MET)" ⟶ 2 ∷ 0 ∷ 3 ∷ 2 ∷ 4 ∷ 1 ∷ 1 ∷ 1 ∷ [])
    ∷ ("TRANSITS([1,01],*)" ⟶ 3 ∷ 0 ∷ 4 ∷ 2 ∷ 1 ∷ 1 ∷ 0 ∷ [])
    ∷ ("TRANSITS(n)" ⟶ 3 ∷ 0 ∷ 5 ∷ 9 ∷ [])
    ∷ ("LAGTIME(ON)" ⟶ 4 ∷ 0 ∷ 1 ∷ 1 ∷ 1 ∷ [])
    ∷ ("COVARIATE?([CL,V],@Pk,*,+)" ⟶ 5 ∷ 1 ∷ 7 ∷ 2 ∷ 12 ∷ 2 ∷ 15 ∷ 1 ∷ 6 ∷ 19 ∷ 2 ∷ 0 ∷ 11 ∷ [])
    ∷ ("COVARIATE(CL,WT,exp)" ⟶ 5 ∷ 0 ∷ 7 ∷ 1 ∷ 10 ∷ 2 ∷ 7 ∷ 1 ∷ 13 ∷ 2 ∷ 1 ∷ 1 ∷ 2 ∷ 10 ∷ [])
    ∷ ("ALLOMETRY(WT)" ⟶ 6 ∷ 0 ∷ 8 ∷ 10 ∷ 2 ∷ 9 ∷ [])
    ∷ ("ALLOMETRY(WT, 70.5)" ⟶ 6 ∷ 0 ∷ 8 ∷ 10 ∷ 2 ∷ 8 ∷ 14 ∷ 4 ∷ [])
    ∷ ("DIRECTEFFECT(STEP)" ⟶ 7 ∷ 0 ∷ 1 ∷ 1 ∷ 3 ∷ [])
    ∷ ("EFFECTCOMP(*)" ⟶ 8 ∷ 0 ∷ 0 ∷ [])
    ∷ ("INDIRECTEFFECT([EMAX,LINEAR],*)" ⟶ 9 ∷ 0 ∷ 1 ∷ 2 ∷ 1 ∷ 0 ∷ 0 ∷ [])
    ∷ ("METABOLITE([PSC,BASIC])" ⟶ 10 ∷ 0 ∷ 1 ∷ 2 ∷ 1 ∷ 0 ∷ [])
    ∷ ("IIV?(*,[EXP])" ⟶ 11 ∷ 1 ∷ 0 ∷ 1 ∷ 1 ∷ 0 ∷ [])
    ∷ ("IOV([1,CL],ADD)" ⟶ 12 ∷ 0 ∷ 7 ∷ 2 ∷ 5 ∷ 1 ∷ 7 ∷ 2 ∷ 1 ∷ 1 ∷ 1 ∷ [])
    ∷ ("COVARIANCE(IIV,*)" ⟶ 13 ∷ 0 ∷ 1 ∷ 1 ∷ 0 ∷ 0 ∷ [])
    ∷ ("let(Pk,[CL,7])" ⟶ 14 ∷ 0 ∷ 8 ∷ 4 ∷ 2 ∷ 12 ∷ 2 ∷ 0 ∷ 8 ∷ 2 ∷ 1 ∷ 11 ∷ 1 ∷ [])
    ∷ []

abbrev all-numbers : Answer (List Statement) → List (List ℕ)
all-numbers (accepted ss) = map numbers_of ss
all-numbers (refused n p) = []

pub checked : map (λ e. all-numbers (read_text 64 (bytes e.text))) examples ≡ map (λ e. e.numbers ∷ []) examples
unfolding read_text read_from turn opened feature_made let_made closed
    build_feature feature_of keyword_of transits_of explicit operator_of name_of
    place_of count_at range_of items_of operand_of mode_list firsts modes_of count_list counts_of
    count_of same_word find labels_of keywords
    scanned tokens_after follow front_of dots number_rest fraction class_of
    numbers_of parts_of feature_parts digits_in
checked = refl

-- texts of two statements, of none, and one that is refused
pub checked_all :
    map (λ s. all_numbering 64 (bytes s)) ("LAGTIME(ON);IIV(CL,*)" ∷ "; ;" ∷ "IIV(CL,*);IIV(CL)" ∷ [])
    ≡ accepted (5 ∷ 4 ∷ 0 ∷ 1 ∷ 1 ∷ 1 ∷ 7 ∷ 11 ∷ 0 ∷ 7 ∷ 1 ∷ 16 ∷ 2 ∷ 0 ∷ []) ∷ accepted [] ∷ refused 8 10 ∷ []
unfolding read_text read_from turn opened feature_made let_made closed
    build_feature feature_of keyword_of transits_of explicit operator_of name_of
    place_of count_at range_of items_of operand_of mode_list firsts modes_of count_list counts_of
    count_of same_word find labels_of keywords
    scanned tokens_after follow front_of dots number_rest fraction class_of
    all_numbering all_numbers_of numbers_of parts_of feature_parts digits_in
checked_all = refl
