-- Texts with what the programs write of them, evaluated on the definitions: document 01's example, refusals of reading, of the profile and of
-- resolving; and with document 01's K, ground texts, effects and notes.
-- Assumes nothing.
use Prim.Native.Nat.{ℕ}
use Prim.Native.String.{String}
use mathlib.Core.Path.{◌≡◌, refl}
use mathlib.Core.List.{List, [], ◌∷◌, map}
use mathlib.Core.Option.{some, none}
use Rattle.text.specs.Bytes.{bytes}
use Rattle.tokens.specs.Class.{class_of}
use Rattle.tokens.specs.Lex.{fraction, number_rest, dots, front_of, follow, tokens_after}
use Rattle.tokens.specs.Next.{scanned}
use Rattle.counts.specs.Count.{count_of}
use Rattle.counts.specs.Decimal.{digits_in, digits_of}
use Rattle.labels.specs.Word.{same_word, find}
use Rattle.labels.specs.Label.{labels_of, keywords}
use Rattle.reading.specs.Answer.{Answer, accepted, refused, ◌>>=◌}
use Rattle.reading.specs.Argument.{place_of, count_at, range_of, items_of, operand_of, mode_list, firsts, modes_of, count_list, counts_of}
use Rattle.reading.specs.Feature.{keyword_of, transits_of, explicit, operator_of, name_of, feature_of, build_feature}
use Rattle.reading.specs.Syntax.{opened, feature_made, let_made, closed, turn}
use Rattle.reading.specs.Read.{read_from, read_text}
use Rattle.reading.specs.Parts.{feature_parts, parts_of}
use Rattle.canonical.specs.Canonical.{statement_shapes, text_shapes}
use Rattle.canonical.specs.Print.{print_text}
use Rattle.resolving.specs.Context.{Binding, continuous, categorical, Declared, Context}
use Rattle.resolving.specs.Builtins.{builtin}
use Rattle.resolving.specs.Symbols.{look_up}
use Rattle.resolving.specs.Brought.{whole, bring}
use Rattle.resolving.specs.Merging.{merged}
use Rattle.resolving.specs.Ground.{ground}
use Rattle.resolving.specs.Resolve.{merge_and_ground, resolve}
use Rattle.profiling.specs.Profile.{profile_from, profile_of, profile_text}
use Rattle.lines.specs.Line.{refusal_line, line_of, print_line, profile_line}
use Rattle.lines.specs.Effects.{operator_word, optional_word, form_words, effect_line, effect_lines}
use Rattle.lines.specs.Stretches.{stretches_from, stretches_of, stretch_at, word_at, part, line_at}
use Rattle.lines.specs.Notes.{reason_for, index_words, dropped_line, additive_line, note_line, note_lines_behind}
use Rattle.lines.specs.Ground.{Asked, for_ground, for_effects, for_notes, resolved_lines, ground_lines}

-- a text and what is written of it
pub record Example : Type 0 where
  pub text : String
  pub written : String

infixl 30 ◌⟶◌
abbrev ◌⟶◌ : String → String → Example
s ⟶ w = record { text = s; written = w }

abbrev wanted : List Example → List (List ℕ)
wanted es = map (λ e. bytes e.written) es

-- "For the input ` peripherals( 007 ) # x` it writes exactly `PERIPHERALS(7)` and a newline."
abbrev pub printed : List Example
printed =
    (" peripherals( 007 ) # x" ⟶ "PERIPHERALS(7)\n")
    ∷ ("" ⟶ "\n")
    ∷ ("LAGTIME(ON)\nIIV?(CL,EXP)" ⟶ "LAGTIME(ON);IIV?(CL,EXP)\n")
    ∷ ("PERIPHERALS(65)" ⟶ "refused 4 12\n")
    ∷ ("ABSORPTION?(*)" ⟶ "refused 7 0\n")
    ∷ ("LAGTIME(ON);ABSORPTION(FO);ELIMINATION(FO);PERIPHERALS(1);TRANSITS(2);IIV(CL,EXP);IOV(CL,EXP);COVARIANCE(IIV,@PK);XX" ⟶ "refused 3 116\n")
    ∷ ("ABSORPTION(MM)" ⟶ "refused 10 11\n")
    ∷ []

pub printed-lines : map (λ e. print_line 64 (bytes e.text)) printed ≡ wanted printed
unfolding print_line line_of refusal_line print_text read_text read_from turn opened feature_made let_made closed
    build_feature feature_of keyword_of transits_of explicit operator_of name_of
    place_of count_at range_of items_of operand_of mode_list firsts modes_of count_list counts_of
    count_of same_word find labels_of keywords
    scanned tokens_after follow front_of dots number_rest fraction class_of
    text_shapes statement_shapes parts_of feature_parts digits_of digits_in
printed-lines = refl

-- under a ceiling of 6, and under one that is too high
pub ceiling-lines :
    print_line 6 (bytes "PERIPHERALS(7)") ∷ print_line 257 [] ∷ profile_line 257 [] ∷ []
    ≡ bytes "refused 4 12\n" ∷ bytes "refused 21 0\n" ∷ bytes "refused 21 0\n" ∷ []
unfolding print_line profile_line profile_text line_of refusal_line print_text read_text read_from turn opened feature_made let_made closed
    build_feature feature_of keyword_of transits_of explicit operator_of name_of
    place_of count_at range_of items_of operand_of mode_list firsts modes_of count_list counts_of
    count_of same_word find labels_of keywords
    scanned tokens_after follow front_of dots number_rest fraction class_of
    digits_of digits_in
ceiling-lines = refl

abbrev pub profiled : List Example
profiled =
    ("LAGTIME(ON)" ⟶ "ok\n")
    ∷ ("PERIPHERALS(65)" ⟶ "refused 4 12\n")
    ∷ ("LAGTIME(ON);METABOLITE(*)" ⟶ "refused 22 1\n")
    ∷ ("PERIPHERALS(11)" ⟶ "refused 24 0\n")
    ∷ []

pub profile_lines : map (λ e. profile_line 64 (bytes e.text)) profiled ≡ wanted profiled
unfolding profile_line line_of refusal_line profile_text profile_of profile_from read_text read_from turn opened feature_made let_made closed
    build_feature feature_of keyword_of transits_of explicit operator_of name_of
    place_of count_at range_of items_of operand_of mode_list firsts modes_of count_list counts_of
    count_of same_word find labels_of keywords
    scanned tokens_after follow front_of dots number_rest fraction class_of
    digits_of digits_in
profile_lines = refl

-- "K: parameters CL, V, KA; IIV CL, V; template cl=CL, v=V, ka=KA; WT continuous, SEX categorical."
abbrev binding : String → String → Binding
binding r v = record { role = bytes r; variable = bytes v }

abbrev k : Context
k =
    record {
      parameters = bytes "CL" ∷ bytes "V" ∷ bytes "KA" ∷ [];
      iiv = bytes "CL" ∷ bytes "V" ∷ [];
      template = some (binding "cl" "CL" ∷ binding "v" "V" ∷ binding "ka" "KA" ∷ []);
      block = some (record { name = bytes "WT"; kind = continuous } ∷ record { name = bytes "SEX"; kind = categorical } ∷ []);
      columns = [];
    }

-- its columns SEX and WT, and no block
abbrev k_columns : Context
k_columns =
    record { parameters = k.parameters; iiv = k.iiv; template = k.template; block = none; columns = bytes "SEX" ∷ bytes "WT" ∷ [] }

abbrev pub writes : Asked → Context → String → List ℕ
writes q c s = ground_lines q c (bytes s) (read_text 64 (bytes s) >>= resolve c)

abbrev pub grounds : List Example
grounds =
    ("COVARIATE(@PK,WT,lin);COVARIATE?(CL,WT,exp)" ⟶ "COVARIATE(V,WT,lin);COVARIATE(KA,WT,lin);COVARIATE?(CL,WT,exp)\n")
    ∷ ("COVARIANCE(IIV,CL)" ⟶ "\n")
    ∷ ("COVARIATE(CL,WT,lin);COVARIATE(CL,WT,exp)" ⟶ "refused 17 1\n")
    ∷ ("PERIPHERALS(65)" ⟶ "refused 4 12\n")
    ∷ []

abbrev pub effects : List Example
effects =
    ("COVARIATE(@PK,WT,lin);COVARIATE?(CL,WT,exp)" ⟶ "V WT lin * mandatory\nKA WT lin * mandatory\nCL WT exp * optional\n")
    ∷ ("COVARIATE?([V,CL],SEX,cat,+);COVARIATE?(KA,WT,custom)" ⟶ "V SEX cat + optional\nCL SEX cat + optional\nKA WT custom * optional\n")
    ∷ ("LAGTIME(ON)" ⟶ "")
    ∷ ("COVARIATE(CL,WT,lin);COVARIATE(CL,WT,exp)" ⟶ "refused 17 1\n")
    ∷ []

-- a statement that is dropped, with what it has of comments and newlines inside it, and its line; LETs count
abbrev pub notes : List Example
notes =
    ("COVARIANCE(IIV,CL)" ⟶ "statement 0, line 1: dropped, for it has fewer than two parameters in this model: COVARIANCE(IIV,CL)\n")
    ∷ ("LET(A,CL) # a )\n\n; iiv( @PD, EXP ) ;Covariate?(@PD,*,lin)# (\nIOV(@PD,[EXP , ADD])"
    ⟶ "statement 1, line 3: dropped, for its parameters stand for nothing in this model: iiv( @PD, EXP )\nstatement 2, line 3: dropped, for its parameters or its covariates stand for nothing in this model: Covariate?(@PD,*,lin)\nstatement 3, line 4: dropped, for its parameters stand for nothing in this model: IOV(@PD,[EXP , ADD])\n")
    ∷ ("COVARIATE(CL,WT,lin,+);IIV(@PD,EXP)"
    ⟶ "statement 1, line 1: dropped, for its parameters stand for nothing in this model: IIV(@PD,EXP)\nsome effects are additive (+): each adds to its parameter and is null where its coefficient is 0\n")
    ∷ ("PERIPHERALS(1);covariance(iiv,CL)"
    ⟶ "statement 1, line 1: dropped, for it has fewer than two parameters in this model: covariance(iiv,CL)\n")
    ∷ ("LAGTIME(ON)" ⟶ "")
    ∷ ("COVARIATE(CL,WT,lin);COVARIATE(CL,WT,exp)" ⟶ "refused 17 1\n")
    ∷ []

pub ground_lines_lem : map (λ e. writes for_ground k e.text) grounds ≡ wanted grounds
unfolding ground_lines resolved_lines refusal_line read_text read_from turn opened feature_made let_made closed
    build_feature feature_of keyword_of transits_of explicit operator_of name_of
    place_of count_at range_of items_of operand_of mode_list firsts modes_of count_list counts_of
    count_of same_word find labels_of keywords
    scanned tokens_after follow front_of dots number_rest fraction class_of
    text_shapes statement_shapes parts_of feature_parts digits_of digits_in
    builtin look_up whole bring merged ground merge_and_ground resolve
ground_lines_lem = refl

pub effect_lines_lem : map (λ e. writes for_effects k e.text) effects ≡ wanted effects
unfolding ground_lines resolved_lines refusal_line effect_lines effect_line form_words operator_word optional_word
    read_text read_from turn opened feature_made let_made closed
    build_feature feature_of keyword_of transits_of explicit operator_of name_of
    place_of count_at range_of items_of operand_of mode_list firsts modes_of count_list counts_of
    count_of same_word find labels_of keywords
    scanned tokens_after follow front_of dots number_rest fraction class_of
    text_shapes statement_shapes parts_of feature_parts digits_of digits_in
    builtin look_up whole bring merged ground merge_and_ground resolve
effect_lines_lem = refl

-- covariates of the columns where there is no block
pub column_lines : writes for_effects k_columns "COVARIATE(V,WT,cat2)" ≡ bytes "V WT cat2 * mandatory\n"
unfolding ground_lines resolved_lines refusal_line effect_lines effect_line form_words operator_word optional_word
    read_text read_from turn opened feature_made let_made closed
    build_feature feature_of keyword_of transits_of explicit operator_of name_of
    place_of count_at range_of items_of operand_of mode_list firsts modes_of count_list counts_of
    count_of same_word find labels_of keywords
    scanned tokens_after follow front_of dots number_rest fraction class_of
    text_shapes statement_shapes parts_of feature_parts digits_of digits_in
    builtin look_up whole bring merged ground merge_and_ground resolve
column_lines = refl

pub note_lines : map (λ e. writes for_notes k e.text) notes ≡ wanted notes
unfolding ground_lines resolved_lines refusal_line note_lines_behind note_line dropped_line index_words additive_line reason_for
    stretches_from stretches_of stretch_at word_at part line_at
    read_text read_from turn opened feature_made let_made closed
    build_feature feature_of keyword_of transits_of explicit operator_of name_of
    place_of count_at range_of items_of operand_of mode_list firsts modes_of count_list counts_of
    count_of same_word find labels_of keywords
    scanned tokens_after follow front_of dots number_rest fraction class_of
    text_shapes statement_shapes parts_of feature_parts digits_of digits_in
    builtin look_up whole bring merged ground merge_and_ground resolve
note_lines = refl
