-- Texts with what the profile says of them, evaluated: each fault with its index, each of the five features twice, counts of 10 and 11 in
-- each of their forms, what comes first, and ceilings on both sides of 10.
-- Assumes nothing.
use Prim.Native.Nat.{ℕ}
use Prim.Native.String.{String}
use mathlib.Core.Path.{◌≡◌, refl}
use mathlib.Core.List.{List, [], ◌∷◌, map}
use Rattle.text.specs.Bytes.{bytes}
use Rattle.tokens.specs.Class.{class_of}
use Rattle.tokens.specs.Lex.{fraction, number_rest, dots, front_of, follow, tokens_after}
use Rattle.tokens.specs.Next.{scanned}
use Rattle.counts.specs.Count.{count_of}
use Rattle.counts.specs.Decimal.{digits_in}
use Rattle.labels.specs.Word.{same_word, find}
use Rattle.labels.specs.Label.{labels_of, keywords}
use Rattle.reading.specs.Answer.{Answer, accepted, refused}
use Rattle.reading.specs.Argument.{place_of, count_at, range_of, items_of, operand_of, mode_list, firsts, modes_of, count_list, counts_of}
use Rattle.reading.specs.Feature.{keyword_of, transits_of, explicit, operator_of, name_of, feature_of, build_feature}
use Rattle.reading.specs.Syntax.{opened, feature_made, let_made, closed, turn}
use Rattle.reading.specs.Read.{read_from, read_text}
use Rattle.profiling.specs.Profile.{Yes, profile_from, profile_of, profile_text}

pub record Example : Type 0 where
  pub ceiling : ℕ
  pub text : String
  pub comes_to_lem : Answer Yes

abbrev under : ℕ → String → Answer Yes → Example
under c s a = record { ceiling = c; text = s; comes_to_lem = a }

-- under the ceiling of 64
infixl 30 ◌⟶◌
abbrev ◌⟶◌ : String → Answer Yes → Example
s ⟶ a = under 64 s a

abbrev yes : Answer Yes
yes = accepted tt

abbrev pub examples : List Example
examples =
    ("" ⟶ yes)
    ∷ ("ABSORPTION(FO);ELIMINATION(*);PERIPHERALS(1..10);TRANSITS([0,10],*);LAGTIME(ON)" ⟶ yes)
    -- all others may stand as often as they like, and their numbers are no counts
    ∷ ("IIV(*,*);IIV(*,*);IOV(*,*);IOV(*,*);COVARIANCE(*,*);COVARIANCE(*,*)" ⟶ yes)
    ∷ ("COVARIATE(CL,WT,exp);COVARIATE(CL,WT,exp);ALLOMETRY(WT,70);ALLOMETRY(WT,70)" ⟶ yes)
    ∷ ("LET(A,[12,13]);LET(A,11);IIV(11,EXP)" ⟶ yes)
    -- "22: a feature outside the profile"
    ∷ ("DIRECTEFFECT(*)" ⟶ refused 22 0)
    ∷ ("EFFECTCOMP(*)" ⟶ refused 22 0)
    ∷ ("INDIRECTEFFECT(*,*)" ⟶ refused 22 0)
    ∷ ("METABOLITE(*)" ⟶ refused 22 0)
    ∷ ("ABSORPTION(*);LET(A,B);IIV(*,*);METABOLITE(*)" ⟶ refused 22 3)
    -- "23: a second statement of one of the five"
    ∷ ("ABSORPTION(FO);ABSORPTION(ZO)" ⟶ refused 23 1)
    ∷ ("ELIMINATION(FO);ELIMINATION(FO)" ⟶ refused 23 1)
    ∷ ("PERIPHERALS(1);PERIPHERALS(2)" ⟶ refused 23 1)
    ∷ ("TRANSITS(N);TRANSITS(1)" ⟶ refused 23 1)
    ∷ ("LAGTIME(ON);LAGTIME(OFF)" ⟶ refused 23 1)
    ∷ ("LAGTIME(ON);LET(A,B);ABSORPTION(*);LAGTIME(ON);LAGTIME(ON)" ⟶ refused 23 3)
    -- "24: a count above 10"
    ∷ ("PERIPHERALS(10)" ⟶ yes)
    ∷ ("PERIPHERALS(11)" ⟶ refused 24 0)
    ∷ ("PERIPHERALS(10..10)" ⟶ yes)
    ∷ ("PERIPHERALS(10..11)" ⟶ refused 24 0)
    ∷ ("PERIPHERALS([10,1],MET)" ⟶ yes)
    ∷ ("PERIPHERALS([11,1],MET)" ⟶ refused 24 0)
    ∷ ("PERIPHERALS([1,2,11])" ⟶ refused 24 0)
    ∷ ("TRANSITS(10)" ⟶ yes)
    ∷ ("TRANSITS(11,DEPOT)" ⟶ refused 24 0)
    ∷ ("TRANSITS(0..10)" ⟶ yes)
    ∷ ("TRANSITS(0..11)" ⟶ refused 24 0)
    ∷ ("TRANSITS([10])" ⟶ yes)
    ∷ ("TRANSITS([10,11])" ⟶ refused 24 0)
    ∷ ("TRANSITS(N)" ⟶ yes)
    ∷ ("LET(A,B);PERIPHERALS(1);TRANSITS(64)" ⟶ refused 24 2)
    -- "first statement first, and in this order within one"
    ∷ ("PERIPHERALS(11);METABOLITE(*)" ⟶ refused 24 0)
    ∷ ("LAGTIME(ON);LAGTIME(ON);METABOLITE(*)" ⟶ refused 23 1)
    ∷ ("METABOLITE(*);PERIPHERALS(11);PERIPHERALS(11)" ⟶ refused 22 0)
    ∷ ("PERIPHERALS(1);PERIPHERALS(11)" ⟶ refused 23 1)
    ∷ ("PERIPHERALS(11);PERIPHERALS(1)" ⟶ refused 24 0)
    -- "after all reading faults"
    ∷ ("METABOLITE(*);PERIPHERALS(65)" ⟶ refused 4 26)
    ∷ ("LAGTIME(ON);LAGTIME(ON);FOO(*)" ⟶ refused 6 24)
    ∷ ("PERIPHERALS(11);$" ⟶ refused 2 16)
    -- "This check .. take a ceiling too"
    ∷ under 3 "PERIPHERALS(3)" yes
    ∷ under 3 "METABOLITE(*);PERIPHERALS(4)" (refused 4 26)
    ∷ under 10 "TRANSITS(1..11)" (refused 4 12)
    ∷ under 11 "TRANSITS(1..11)" (refused 24 0)
    ∷ under 256 "PERIPHERALS(10);TRANSITS(256)" (refused 24 1)
    ∷ under 0 "PERIPHERALS(0)" yes
    ∷ under 257 "METABOLITE(*)" (refused 21 0)
    ∷ []

pub checked : map (λ e. profile_text e.ceiling (bytes e.text)) examples ≡ map (λ e. e.comes_to_lem) examples
unfolding read_text read_from turn opened feature_made let_made closed
    build_feature feature_of keyword_of transits_of explicit operator_of name_of
    place_of count_at range_of items_of operand_of mode_list firsts modes_of count_list counts_of
    count_of same_word find labels_of keywords digits_in
    scanned tokens_after follow front_of dots number_rest fraction class_of
    profile_from profile_of profile_text
checked = refl
