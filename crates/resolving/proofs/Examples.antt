-- Document 01, Examples: those of resolving, as one checked list with the rest, evaluated on the definitions: sentences of Resolving and
-- Merging, what docs/DECISIONS.md settles, and each fault from 12 to 18, at its limits too.
-- Assumes nothing.
use Prim.Native.Nat.{ℕ, zero, suc, ◌+◌}
use Prim.Native.String.{String}
use mathlib.Core.Path.{◌≡◌, refl}
use mathlib.Core.Bool.{Bool, true, false, not, ◌&&◌}
use mathlib.Core.List.{List, [], ◌∷◌, ◌++◌, map}
use mathlib.Core.Option.{Option, some, none}
use Rattle.text.specs.Bytes.{bytes, count_up}
use Rattle.tokens.specs.Class.{class_of}
use Rattle.tokens.specs.Lex.{fraction, number_rest, dots, front_of, follow, tokens_after}
use Rattle.tokens.specs.Next.{scanned}
use Rattle.counts.specs.Count.{count_of}
use Rattle.counts.specs.Decimal.{digits_in, digits_of}
use Rattle.labels.specs.Word.{same_word, find}
use Rattle.labels.specs.Label.{labels_of, keywords}
use Rattle.reading.specs.Statement.{all_modes, modes, Operand, names, multiply, Lagtime, Covariate, IndirectEffect, Iiv, Statement, feature}
use Rattle.reading.specs.Answer.{Answer, accepted, refused}
use Rattle.reading.specs.Argument.{place_of, count_at, range_of, items_of, operand_of, mode_list, firsts, modes_of, count_list, counts_of}
use Rattle.reading.specs.Feature.{keyword_of, transits_of, explicit, operator_of, name_of, feature_of, build_feature}
use Rattle.reading.specs.Syntax.{opened, feature_made, let_made, closed, turn}
use Rattle.reading.specs.Read.{read_from, read_text}
use Rattle.reading.specs.Parts.{feature_parts, parts_of}
use Rattle.canonical.specs.Canonical.{statement_shapes, text_shapes}
use Rattle.canonical.proofs.Examples as printing
use Rattle.text.specs.Lists.{any, all}
use Rattle.resolving.specs.Builtins.{builtin}
use Rattle.resolving.specs.Symbols.{look_up}
use Rattle.resolving.specs.Effects.{Effect}
use Rattle.resolving.specs.Brought.{whole, plain_name, bring}
use Rattle.resolving.specs.Merging.{merged}
use Rattle.resolving.specs.Ground.{ground}
use Rattle.resolving.specs.Resolve.{Note, Resolved, ground_text, merge_and_ground, resolve}
use Rattle.resolving.specs.Given.{Pair, BindingPairs, DeclaredPair, Given, is_context, context_in, resolve_text}

abbrev list_or : {A : Type 0} → Option (List A) → List A
list_or none = []
list_or (some xs) = xs

abbrev is_there : {A : Type 0} → Option A → Bool
is_there none = false
is_there (some x) = true

pub data Outcome : Type 0 where
  comes_to : List ℕ → List Effect → List Note → Outcome
  refusal : ℕ → ℕ → Outcome

abbrev pub outcome : Answer Resolved → Outcome
outcome (accepted r) = comes_to (ground_text r) r.effects r.notes
outcome (refused n p) = refusal n p

abbrev pub five : ℕ → ℕ → ℕ → ℕ → ℕ → Effect
five p c f o m = record { parameter = p; covariate = c; form = f; operator = o; optional = m }

abbrev pub note : ℕ → ℕ → Note
note r i = record { reason = r; index = i }

-- "K: parameters CL, V, KA; IIV CL, V; template cl=CL, v=V, ka=KA; WT continuous, SEX categorical." Behind K's names the block has another WT.
abbrev pair : ℕ → ℕ → Pair
pair o n = record { offset = o; size = n }

abbrev binding : Pair → Pair → BindingPairs
binding r v = record { role = r; variable = v }

abbrev covariate : Pair → ℕ → DeclaredPair
covariate p k = record { name = p; kind = k }

-- contexts of K's block: parameters, IIV parameters, template, declared covariates, data columns
abbrev k_of : List Pair → List Pair → Option (List BindingPairs) → Option (List DeclaredPair) → List Pair → Given
k_of ps is t d cs =
    record {
      bytes = bytes "CLVKAclCLvVkaKAWTSEXWT";
      parameters = ps;
      iiv = is;
      bindings = list_or t;
      declared = list_or d;
      columns = cs;
      has_template = is_there t;
      has_block = is_there d;
    }

abbrev k_parameters : List Pair
k_parameters = pair 0 2 ∷ pair 2 1 ∷ pair 3 2 ∷ []

abbrev k_iiv : List Pair
k_iiv = pair 0 2 ∷ pair 2 1 ∷ []

abbrev k_template : List BindingPairs
k_template = binding (pair 5 2) (pair 7 2) ∷ binding (pair 9 1) (pair 10 1) ∷ binding (pair 11 2) (pair 13 2) ∷ []

abbrev k_block : List DeclaredPair
k_block = covariate (pair 15 2) 0 ∷ covariate (pair 17 3) 1 ∷ []

abbrev k : Given
k = k_of k_parameters k_iiv (some k_template) (some k_block) []

-- K with another template, other covariates, or other data columns
abbrev with_template : Option (List BindingPairs) → Given
with_template t = k_of k_parameters k_iiv t (some k_block) []

abbrev with_block : Option (List DeclaredPair) → List Pair → Given
with_block d cs = k_of k_parameters k_iiv (some k_template) d cs

-- K's lists with other marks
abbrev with_marks : Bool → Bool → Given
with_marks t d =
    record {
      bytes = k.bytes;
      parameters = k_parameters;
      iiv = k_iiv;
      bindings = k_template;
      declared = k_block;
      columns = [];
      has_template = t;
      has_block = d;
    }

-- its columns WT and SEX, and no block
abbrev k_columns : Given
k_columns = with_block none (pair 15 2 ∷ pair 17 3 ∷ [])

-- WT declared twice, first continuous, then categorical
abbrev k_twice : Given
k_twice = with_block (some (covariate (pair 15 2) 0 ∷ covariate (pair 17 3) 1 ∷ covariate (pair 20 2) 1 ∷ [])) []

-- parameters cl and CL, of which the template binds CL; and a role KA, and a variable SEX that is no parameter
abbrev k_case : Given
k_case =
    k_of
    (pair 5 2 ∷ pair 7 2 ∷ [])
    (pair 15 2 ∷ [])
    (some (binding (pair 3 2) (pair 7 2) ∷ binding (pair 11 2) (pair 17 3) ∷ []))
    (some k_block)
    []

pub record Example : Type 0 where
  pub context : Given
  pub text : List ℕ
  pub comes_to_lem : Outcome

abbrev in_context : Given → String → Outcome → Example
in_context g s o = record { context = g; text = bytes s; comes_to_lem = o }

infixl 30 ◌⟶◌
abbrev ◌⟶◌ : String → Outcome → Example
s ⟶ o = in_context k s o

abbrev pub examples : List Example
examples =
    ("LET(PK,[CL]);IIV(@PK_IIV,*)" ⟶ comes_to (bytes "IIV([CL,V],[EXP,ADD,PROP,LOG,RE_LOG])") [] [])
    ∷ ("LET(PK,[CL]);IIV(*,*)" ⟶ comes_to (bytes "IIV(CL,[EXP,ADD,PROP,LOG,RE_LOG])") [] [])
    ∷ ("COVARIATE(CL,WT,lin);COVARIATE(CL,WT,exp)" ⟶ refusal 17 1)
    ∷ ("COVARIATE(CL,WT,[lin,exp])" ⟶ comes_to (bytes "COVARIATE(CL,WT,[lin,exp])") (five 0 0 0 0 0 ∷ five 0 0 2 0 0 ∷ []) [])
    ∷ ("COVARIATE(@PK,WT,lin);COVARIATE?(CL,WT,exp)"
    ⟶ comes_to
    (bytes "COVARIATE(V,WT,lin);COVARIATE(KA,WT,lin);COVARIATE?(CL,WT,exp)")
    (five 1 0 0 0 0 ∷ five 2 0 0 0 0 ∷ five 0 0 2 0 1 ∷ [])
    [])
    ∷ ("COVARIANCE(IIV,CL)" ⟶ comes_to [] [] (note 0 0 ∷ []))
    ∷ []

-- Sentences of the paper, in its order, and what docs/DECISIONS.md says of them.
abbrev pub rules : List Example
rules =
    -- "Collect every LET; the key ignores ASCII case."
    ("LET(a,V);IIV(@A,EXP)" ⟶ comes_to (bytes "IIV(V,EXP)") [] [])
    -- an unused LET's values are held to nothing
    ∷ ("LET(A,NOPE)" ⟶ comes_to [] [] [])
    -- "Parameter `*` looks up PK for COVARIATE and IIV, and IIV for IOV and COVARIANCE, so a LET of that name changes `*`."
    ∷ ("IOV(*,EXP);COVARIANCE(IIV,*)" ⟶ comes_to (bytes "IOV([CL,V],EXP);COVARIANCE(IIV,[CL,V])") [] [])
    ∷ ("LET(iiv,[KA,V]);IOV(*,EXP)" ⟶ comes_to (bytes "IOV([KA,V],EXP)") [] [])
    -- "the built-ins of `builtin`"
    ∷ ("IIV(@ABSORPTION,EXP);IIV(@ELIMINATION,EXP);IIV(@DISTRIBUTION,EXP);IIV(@BIOAVAIL,EXP)"
    ⟶ comes_to (bytes "IIV(KA,EXP);IIV(CL,EXP);IIV(V,EXP)") [] (note 0 3 ∷ []))
    -- "PD and PD_IIV are empty."
    ∷ ("IIV(@pd,*);IIV(@PD_IIV,*)" ⟶ comes_to [] [] (note 0 0 ∷ note 0 1 ∷ []))
    -- "Covariate `*` is every declared covariate, or the data columns where there is no block." "without a block all suit"
    ∷ in_context k_columns "COVARIATE(CL,*,cat)"
    (comes_to (bytes "COVARIATE(CL,WT,cat);COVARIATE(CL,SEX,cat)") (five 0 0 4 0 0 ∷ five 0 1 4 0 0 ∷ []) [])
    -- "Template variables match parameters ignoring case, first match; other names match exactly." Roles match exactly too.
    ∷ in_context k_case "IIV(@PK,EXP);IIV(@ABSORPTION,EXP);IIV(CL,EXP)" (comes_to (bytes "IIV(cl,EXP);IIV(CL,EXP)") [] (note 0 1 ∷ []))
    ∷ ("IIV(cl,EXP)" ⟶ refusal 15 0)
    -- "Each resolved list keeps first occurrences."
    ∷ ("IIV([V,CL,V],EXP)" ⟶ comes_to (bytes "IIV([V,CL],EXP)") [] [])
    -- "Each name in one, written or brought by a symbol or `*`, is held by 15": an IIV parameter that is no parameter, only where it is used
    ∷ in_context k_case "IIV(@PK_IIV,EXP)" (comes_to [] [] (note 0 0 ∷ []))
    ∷ in_context k_case "IOV(*,EXP)" (refusal 15 0)
    -- "A note is (reason, statement index)": LETs count
    ∷ ("LET(A,CL);COVARIANCE(IIV,@A)" ⟶ comes_to [] [] (note 0 1 ∷ []))
    -- a COVARIANCE's names are those of the parameters
    ∷ ("COVARIANCE(IIV,[KA,CL])" ⟶ comes_to (bytes "COVARIANCE(IIV,[KA,CL])") [] [])
    -- "fewer than two a COVARIANCE", after its names are held
    ∷ ("COVARIANCE(IIV,[CL,CL])" ⟶ comes_to [] [] (note 0 0 ∷ []))
    ∷ ("COVARIANCE(IIV,WT)" ⟶ refusal 15 0)
    -- a COVARIATE without parameters still has its covariates looked up and held, and has no pair against its kind
    ∷ ("COVARIATE(@PD,@NONE,lin)" ⟶ refusal 14 0)
    ∷ ("COVARIATE(@PD,CL,lin)" ⟶ refusal 15 0)
    ∷ ("COVARIATE(@PD,SEX,lin)" ⟶ comes_to [] [] (note 0 0 ∷ []))
    -- ALLOMETRY's covariate
    ∷ ("ALLOMETRY(WT,70)" ⟶ comes_to (bytes "ALLOMETRY(WT,70)") [] [])
    ∷ ("ALLOMETRY(CL)" ⟶ refusal 15 0)
    -- "Effect `*` is Cat for a categorical covariate, else the four of `CONTINUOUS`." "by parameter, then covariate, then form"
    ∷ ("COVARIATE?([V,CL],*,*)"
    ⟶ comes_to
    (bytes "COVARIATE?(V,WT,[lin,piece_lin,exp,pow]);COVARIATE?(V,SEX,cat);COVARIATE?(CL,WT,[lin,piece_lin,exp,pow]);COVARIATE?(CL,SEX,cat)")
    (five 1 0 0 0 1
    ∷ five 1 0 1 0 1
    ∷ five 1 0 2 0 1
    ∷ five 1 0 3 0 1
    ∷ five 1 1 4 0 1
    ∷ five 0 0 0 0 1
    ∷ five 0 0 1 0 1
    ∷ five 0 0 2 0 1
    ∷ five 0 0 3 0 1
    ∷ five 0 1 4 0 1
    ∷ [])
    [])
    ∷ in_context k_columns "COVARIATE?(CL,SEX,*)"
    (comes_to
    (bytes "COVARIATE?(CL,SEX,[lin,piece_lin,exp,pow])")
    (five 0 1 0 0 1 ∷ five 0 1 1 0 1 ∷ five 0 1 2 0 1 ∷ five 0 1 3 0 1 ∷ [])
    [])
    -- "A covariate's kind is that of its first declared entry"; @CATEGORICAL goes by each entry's own
    ∷ in_context k_twice "COVARIATE?(CL,@CATEGORICAL,*)"
    (comes_to
    (bytes "COVARIATE?(CL,SEX,cat);COVARIATE?(CL,WT,[lin,piece_lin,exp,pow])")
    (five 0 1 4 0 1 ∷ five 0 0 0 0 1 ∷ five 0 0 1 0 1 ∷ five 0 0 2 0 1 ∷ five 0 0 3 0 1 ∷ [])
    [])
    -- "Every other mode `*` becomes its family's whole list; counts stay."
    ∷ ("PERIPHERALS(0..2,*);TRANSITS([0,3]);TRANSITS(N);INDIRECTEFFECT(LINEAR,*)"
    ⟶ comes_to (bytes "PERIPHERALS(0..2,[DRUG,MET]);TRANSITS([0,3]);TRANSITS(N);INDIRECTEFFECT(LINEAR,[PRODUCTION,DEGRADATION])") [] [])
    ∷ ("ABSORPTION(*);ELIMINATION(*);TRANSITS(1,*);LAGTIME(*)"
    ⟶ comes_to
    (bytes "ABSORPTION([INST,FO,ZO,SEQ-ZO-FO,WEIBULL]);ELIMINATION([FO,ZO,MM,MIX-FO-MM]);TRANSITS(1,[DEPOT,NODEPOT]);LAGTIME([OFF,ON])")
    []
    [])
    ∷ ("DIRECTEFFECT(*);EFFECTCOMP(*);INDIRECTEFFECT(*,PRODUCTION);METABOLITE(*)"
    ⟶ comes_to
    (bytes
    "DIRECTEFFECT([LINEAR,EMAX,SIGMOID,STEP,LOGLIN]);EFFECTCOMP([LINEAR,EMAX,SIGMOID,STEP,LOGLIN]);INDIRECTEFFECT([LINEAR,EMAX,SIGMOID,STEP,LOGLIN],PRODUCTION);METABOLITE([BASIC,PSC])")
    []
    [])
    -- .. and the `?` of an IIV, IOV or COVARIANCE stays
    ∷ ("IIV?(CL,EXP);IOV?(V,*);COVARIANCE?(*,[CL,V])"
    ⟶ comes_to (bytes "IIV?(CL,EXP);IOV?(V,[EXP,ADD,PROP,LOG,RE_LOG]);COVARIANCE?([IIV,IOV],[CL,V])") [] [])
    -- "a COVARIATE is explicit when its parameter operand is a list of names": one of `*` is not
    ∷ ("COVARIATE(*,WT,lin);COVARIATE(CL,WT,exp)"
    ⟶ comes_to
    (bytes "COVARIATE(V,WT,lin);COVARIATE(KA,WT,lin);COVARIATE(CL,WT,exp)")
    (five 1 0 0 0 0 ∷ five 2 0 0 0 0 ∷ five 0 0 2 0 0 ∷ [])
    [])
    -- "on the same pair": another covariate, and another parameter, is another pair
    ∷ ("COVARIATE(@ELIMINATION,SEX,cat);COVARIATE(CL,WT,lin);COVARIATE(V,WT,lin)"
    ⟶ comes_to
    (bytes "COVARIATE(CL,SEX,cat);COVARIATE(CL,WT,lin);COVARIATE(V,WT,lin)")
    (five 0 1 4 0 0 ∷ five 0 0 0 0 0 ∷ five 1 0 0 0 0 ∷ [])
    [])
    -- one of an explicit statement's pairs is enough, and a LET or what is dropped has none
    ∷ ("COVARIATE(@ELIMINATION,WT,lin);COVARIATE([CL,V],WT,exp)"
    ⟶ comes_to (bytes "COVARIATE(CL,WT,exp);COVARIATE(V,WT,exp)") (five 0 0 2 0 0 ∷ five 1 0 2 0 0 ∷ []) [])
    ∷ ("LET(A,CL);IIV(@PD,EXP);COVARIATE(@A,WT,lin)" ⟶ comes_to (bytes "COVARIATE(CL,WT,lin)") (five 0 0 0 0 0 ∷ []) (note 0 1 ∷ []))
    -- "1, last and once, some merged effect is additive": behind the dropped ones, and not for an effect that lost
    ∷ ("COVARIATE(CL,WT,lin,+);IIV(@PD,EXP)" ⟶ comes_to (bytes "COVARIATE(CL,WT,lin,+)") (five 0 0 0 1 0 ∷ []) (note 0 1 ∷ note 1 0 ∷ []))
    ∷ ("COVARIATE(@ELIMINATION,WT,lin,+);COVARIATE(CL,WT,exp)" ⟶ comes_to (bytes "COVARIATE(CL,WT,exp)") (five 0 0 2 0 0 ∷ []) [])
    -- "Empty .. covariates drop a COVARIATE"
    ∷ in_context (with_block (some []) []) "COVARIATE(CL,*,lin)" (comes_to [] [] (note 0 0 ∷ []))
    -- "Cat and Cat2 suit categorical, the other forms continuous"
    ∷ ("COVARIATE(CL,@CATEGORICAL,cat2);COVARIATE(CL,@CONTINUOUS,custom)"
    ⟶ comes_to (bytes "COVARIATE(CL,SEX,cat2);COVARIATE(CL,WT,custom)") (five 0 1 5 0 0 ∷ five 0 0 6 0 0 ∷ []) [])
    -- "An effect of a statement that is not explicit loses to an explicit one on the same pair": before 17 is said, and with no note
    ∷ ("COVARIATE(@ELIMINATION,WT,lin);COVARIATE(CL,WT,exp)" ⟶ comes_to (bytes "COVARIATE(CL,WT,exp)") (five 0 0 2 0 0 ∷ []) [])
    -- "A mandatory pair that remains from two statements is refused", whatever its operator
    ∷ ("COVARIATE(*,WT,lin);LAGTIME(*);COVARIATE(@PK,WT,exp,+)" ⟶ refusal 17 2)
    -- "An optional effect equal to a mandatory one in pair, effect and operator goes; repeats go."
    ∷ ("COVARIATE?(CL,WT,[lin,exp]);COVARIATE(CL,WT,lin);COVARIATE?(CL,WT,exp)"
    ⟶ comes_to (bytes "COVARIATE?(CL,WT,exp);COVARIATE(CL,WT,lin)") (five 0 0 2 0 1 ∷ five 0 0 0 0 0 ∷ []) [])
    ∷ ("COVARIATE?(CL,WT,lin,+);COVARIATE(CL,WT,lin)"
    ⟶ comes_to (bytes "COVARIATE?(CL,WT,lin,+);COVARIATE(CL,WT,lin)") (five 0 0 0 1 1 ∷ five 0 0 0 0 0 ∷ []) (note 1 0 ∷ []))
    -- "grouped by pair, operator and optional mark in order of first occurrence, within a group too, after all other ground features"; the
    -- effects are listed as they come
    ∷ ("COVARIATE?([CL,V],WT,exp,+);COVARIATE?(CL,WT,lin,+);COVARIATE?(CL,WT,pow);LAGTIME(ON)"
    ⟶ comes_to
    (bytes "LAGTIME(ON);COVARIATE?(CL,WT,[exp,lin],+);COVARIATE?(V,WT,exp,+);COVARIATE?(CL,WT,pow)")
    (five 0 0 2 1 1 ∷ five 1 0 2 1 1 ∷ five 0 0 0 1 1 ∷ five 0 0 3 0 1 ∷ [])
    (note 1 0 ∷ []))
    ∷ []

abbrev pub faults : List Example
faults =
    -- 12, after the faults of reading: a kind, a name behind the block, one that is no word, pairs out of order and one over another (also in
    -- columns beside a block), roles and variables in one order, a list without its mark
    in_context (with_block (some (covariate (pair 15 2) 2 ∷ [])) []) "PERIPHERALS(65)" (refusal 4 12)
    ∷ in_context (with_block (some (covariate (pair 15 2) 2 ∷ [])) []) "LET(A,CL);LET(A,CL)" (refusal 12 0)
    ∷ in_context (with_block (some (covariate (pair 20 3) 1 ∷ [])) []) "" (refusal 12 0)
    ∷ in_context (with_block (some (covariate (pair 17 0) 1 ∷ [])) []) "" (refusal 12 0)
    ∷ in_context (with_block (some k_block) (pair 17 3 ∷ pair 15 2 ∷ [])) "" (refusal 12 0)
    ∷ in_context (with_block (some k_block) (pair 15 2 ∷ pair 16 2 ∷ [])) "" (refusal 12 0)
    ∷ in_context (k_of k_parameters (pair 2 1 ∷ pair 0 2 ∷ []) (some k_template) (some k_block) []) "" (refusal 12 0)
    ∷ in_context (with_template (some (binding (pair 7 2) (pair 5 2) ∷ []))) "" (refusal 12 0)
    ∷ in_context (with_marks false true) "" (refusal 12 0)
    ∷ in_context (with_marks true false) "" (refusal 12 0)
    -- 13 before 14, at the second LET of the key
    ∷ ("IIV(@NONE,*);LET(A,CL);LET(B,V);LET(a,V)" ⟶ refusal 13 3)
    -- 14 to 16 by statement
    ∷ ("LAGTIME(*);IIV(@NONE,*);IIV(WT,*)" ⟶ refusal 14 1)
    ∷ in_context (with_template none) "IIV(*,*)" (refusal 14 0)
    ∷ in_context k_columns "COVARIATE(CL,@CONTINUOUS,lin)" (refusal 14 0)
    ∷ ("LAGTIME(*);IIV(WT,*);IIV(@NONE,*)" ⟶ refusal 15 1)
    ∷ ("LET(A,WT);COVARIATE(CL,@A,cat)" ⟶ refusal 16 1)
    ∷ ("COVARIATE(CL,WT,cat2)" ⟶ refusal 16 0)
    ∷ ("COVARIATE(CL,[WT,SEX],lin)" ⟶ refusal 16 0)
    ∷ ("COVARIATE(CL,WT,[lin,cat])" ⟶ refusal 16 0)
    ∷ ("COVARIATE(CL,SEX,custom)" ⟶ refusal 16 0)
    ∷ []

abbrev pub run : Example → Outcome
run e = outcome (resolve_text 64 e.context e.text)

-- Document 01's examples, those of reading and printing and those with K, as one list.
pub data Case : Type 0 where
  printed : printing.Example → Case
  resolved : Example → Case

pub data Result : Type 0 where
  of_printing : printing.Outcome → Result
  of_resolving : Outcome → Result

abbrev pub result : Case → Result
result (printed e) = of_printing (printing.outcome (read_text 64 (bytes e.text)))
result (resolved e) = of_resolving (run e)

abbrev pub expected : Case → Result
expected (printed e) = of_printing e.comes_to_lem
expected (resolved e) = of_resolving e.comes_to_lem

abbrev pub document : List Case
document = map printed printing.examples ++ map resolved examples

pub document_checked : map result document ≡ map expected document
unfolding resolve_text read_text read_from turn opened feature_made let_made closed
    build_feature feature_of keyword_of transits_of explicit operator_of name_of
    place_of count_at range_of items_of operand_of mode_list firsts modes_of count_list counts_of
    count_of same_word find labels_of keywords
    scanned tokens_after follow front_of dots number_rest fraction class_of
    text_shapes statement_shapes parts_of feature_parts digits_of digits_in
    builtin look_up whole bring merged ground merge_and_ground resolve
document_checked = refl

pub checked : map run (rules ++ faults) ≡ map (λ e. e.comes_to_lem) (rules ++ faults)
unfolding resolve_text read_text read_from turn opened feature_made let_made closed
    build_feature feature_of keyword_of transits_of explicit operator_of name_of
    place_of count_at range_of items_of operand_of mode_list firsts modes_of count_list counts_of
    count_of same_word find labels_of keywords
    scanned tokens_after follow front_of dots number_rest fraction class_of
    text_shapes statement_shapes parts_of feature_parts digits_of digits_in
    builtin look_up whole bring merged ground merge_and_ground resolve
checked = refl

-- 18, on statements by value: of effects, before 17; of ground statements; and of the bytes of the ground text.

abbrev copies : ℕ → Statement → List Statement
copies zero s = []
copies (suc n) s = s ∷ copies n s

abbrev called : List String → Operand
called ws = names (map (λ w. plain_name (bytes w)) ws)

-- mandatory effects of WT
abbrev effects_on : List String → List ℕ → Statement
effects_on ps fs = feature (Covariate false (called ps) (called ("WT" ∷ [])) (modes fs) multiply)

abbrev twelve : Statement
twelve = effects_on ("CL" ∷ "V" ∷ "KA" ∷ []) (0 ∷ 1 ∷ 2 ∷ 3 ∷ [])

-- statements of 11, 74, and 10 or 11 bytes in the ground text
abbrev eleven : Statement
eleven = feature (Lagtime (modes (1 ∷ [])))

abbrev seventy_four : Statement
seventy_four = feature (IndirectEffect all_modes all_modes)

abbrev variable : String → Statement
variable w = feature (Iiv false (called (w ∷ [])) (modes (0 ∷ [])))

abbrev pub large : List (List Statement)
large =
    (copies 170 twelve ++ effects_on ("CL" ∷ "V" ∷ []) (0 ∷ 1 ∷ 2 ∷ 3 ∷ []) ∷ [])
    ∷ (copies 170 twelve ++ effects_on ("CL" ∷ "V" ∷ "KA" ∷ []) (0 ∷ 1 ∷ 2 ∷ []) ∷ [])
    ∷ copies 256 eleven
    ∷ copies 257 eleven
    ∷ (copies 218 seventy_four ++ eleven ∷ eleven ∷ variable "V" ∷ [])
    ∷ (copies 218 seventy_four ++ eleven ∷ eleven ∷ variable "CL" ∷ [])
    -- 17 comes before 18 for the ground space
    ∷ (copies 256 eleven ++ effects_on ("CL" ∷ []) (0 ∷ []) ∷ effects_on ("CL" ∷ []) (2 ∷ []) ∷ [])
    ∷ []

-- the number and the place of a refusal
abbrev refusal_in : Answer Resolved → List ℕ
refusal_in (accepted r) = []
refusal_in (refused n p) = n ∷ p ∷ []

pub limits :
    map (λ ss. refusal_in (resolve (context_in k) ss)) large
    ≡ (17 ∷ 1 ∷ []) ∷ (18 ∷ 0 ∷ []) ∷ [] ∷ (18 ∷ 0 ∷ []) ∷ [] ∷ (18 ∷ 0 ∷ []) ∷ (17 ∷ 257 ∷ []) ∷ []
unfolding count_of same_word find labels_of keywords class_of
    text_shapes statement_shapes parts_of feature_parts digits_of digits_in number_rest fraction
    builtin look_up whole bring merged ground merge_and_ground resolve
limits = refl

-- 12 at its limits: the bytes of the block, those of a name, and the entries of each list.

abbrev letters : ℕ → List ℕ
letters zero = []
letters (suc n) = 65 ∷ letters n

abbrev parameters_in : List ℕ → List Pair → Given
parameters_in block ps =
    record {
      bytes = block;
      parameters = ps;
      iiv = [];
      bindings = [];
      declared = [];
      columns = [];
      has_template = false;
      has_block = false;
    }

-- so many parameters, IIV parameters, bindings, declared covariates and data columns, each of one letter
abbrev of_sizes : ℕ → ℕ → ℕ → ℕ → ℕ → Given
of_sizes p i b d c =
    record {
      bytes = letters 130;
      parameters = map (λ o. pair o 1) (count_up 0 p);
      iiv = map (λ o. pair o 1) (count_up 0 i);
      bindings = map (λ o. binding (pair (o + o) 1) (pair (suc (o + o)) 1)) (count_up 0 b);
      declared = map (λ o. covariate (pair o 1) 1) (count_up 0 d);
      columns = map (λ o. pair o 1) (count_up 0 c);
      has_template = true;
      has_block = true;
    }

abbrev pub contexts : List Given
contexts =
    parameters_in (letters 16384) (pair 16352 32 ∷ [])
    ∷ of_sizes 64 64 64 64 64
    ∷ parameters_in (bytes "SEQ-ZO70.5") (pair 0 6 ∷ pair 6 4 ∷ [])
    ∷ []

abbrev pub no_contexts : List Given
no_contexts =
    parameters_in (letters 16385) []
    ∷ parameters_in (letters 33) (pair 0 33 ∷ [])
    ∷ parameters_in (bytes "A B") (pair 0 3 ∷ [])
    ∷ of_sizes 65 0 0 0 0
    ∷ of_sizes 0 65 0 0 0
    ∷ of_sizes 0 0 65 0 0
    ∷ of_sizes 0 0 0 65 0
    ∷ of_sizes 0 0 0 0 65
    ∷ []

pub context_limits : all is_context contexts && not (any is_context no_contexts) ≡ true
unfolding class_of number_rest fraction
context_limits = refl
