-- The context as the call takes it, one run of numbers, and Resolve as it is called, with its outputs and its working buffer. Evaluated on the
-- definitions.
-- Assumes nothing.
use Prim.Native.Nat.{ℕ}
use Prim.Native.String.{String}
use mathlib.Core.Path.{◌≡◌, refl}
use mathlib.Core.Bool.{Bool, true, false}
use mathlib.Core.List.{List, [], ◌∷◌, ◌++◌, map}
use mathlib.Core.Option.{some, none}
use lib.ListN.{replicate}
use Rattle.text.specs.Bytes.{bytes}
use Rattle.tokens.specs.Class.{class_of}
use Rattle.tokens.specs.Lex.{fraction, number_rest, dots, front_of, follow, tokens_after}
use Rattle.tokens.specs.Next.{scanned}
use Rattle.counts.specs.Count.{count_of}
use Rattle.counts.specs.Decimal.{digits_in, digits_of}
use Rattle.labels.specs.Word.{same_word, find}
use Rattle.labels.specs.Label.{labels_of, keywords}
use Rattle.reading.specs.Statement.{modes, Lagtime, feature}
use Rattle.reading.specs.Answer.{Answer, accepted, refused}
use Rattle.reading.specs.Argument.{place_of, count_at, range_of, items_of, operand_of, mode_list, firsts, modes_of, count_list, counts_of}
use Rattle.reading.specs.Feature.{keyword_of, transits_of, explicit, operator_of, name_of, feature_of, build_feature}
use Rattle.reading.specs.Syntax.{opened, feature_made, let_made, closed, turn}
use Rattle.reading.specs.Read.{read_from, read_text}
use Rattle.reading.specs.Parts.{feature_parts, parts_of}
use Rattle.canonical.specs.Canonical.{statement_shapes, text_shapes}
use Rattle.resolving.specs.Context.{Context, Binding, continuous, categorical}
use Rattle.resolving.specs.Builtins.{builtin}
use Rattle.resolving.specs.Symbols.{look_up}
use Rattle.resolving.specs.Brought.{whole, bring}
use Rattle.resolving.specs.Merging.{merged}
use Rattle.resolving.specs.Ground.{ground}
use Rattle.resolving.specs.Resolve.{Resolved, ground_text, merge_and_ground, resolve}
use Rattle.resolving.specs.Given.{Pair, BindingPairs, DeclaredPair, Given, resolve_text}
use Rattle.resolving.specs.Handed.{pairs_at, bindings_at, declared_at, is_run, given_in, is_handed, handed_context, resolve_handed}
use Rattle.resolving.specs.Call.{Lengths, effect_numbers, resolving_call, lengths_of, work_after, Leaves}
use Rattle.resolving.proofs.Examples.{five, note}

-- "parameters, IIV parameters, template bindings (each a role pair, then a variable pair), declared covariates (each with a kind ..), data
-- columns": the five counts, the two marks, and the entries, each list behind the one before.

abbrev pair : ℕ → ℕ → Pair
pair o n = record { offset = o; size = n }

abbrev binding : Pair → Pair → BindingPairs
binding r v = record { role = r; variable = v }

abbrev covariate : Pair → ℕ → DeclaredPair
covariate p k = record { name = p; kind = k }

abbrev context_laid_out : List ℕ
context_laid_out =
    (2 ∷ 1 ∷ 2 ∷ 2 ∷ 3 ∷ 1 ∷ 0 ∷ [])
    ++ (10 ∷ 11 ∷ 12 ∷ 13 ∷ [])
    ++ (14 ∷ 15 ∷ [])
    ++ (16 ∷ 17 ∷ 18 ∷ 19 ∷ 20 ∷ 21 ∷ 22 ∷ 23 ∷ [])
    ++ (24 ∷ 25 ∷ 26 ∷ 27 ∷ 28 ∷ 29 ∷ [])
    ++ (30 ∷ 31 ∷ 32 ∷ 33 ∷ 34 ∷ 35 ∷ [])

pub laid_out :
    given_in (7 ∷ 8 ∷ 9 ∷ []) context_laid_out
    ≡ record {
      bytes = 7 ∷ 8 ∷ 9 ∷ [];
      parameters = pair 10 11 ∷ pair 12 13 ∷ [];
      iiv = pair 14 15 ∷ [];
      bindings = binding (pair 16 17) (pair 18 19) ∷ binding (pair 20 21) (pair 22 23) ∷ [];
      declared = covariate (pair 24 25) 26 ∷ covariate (pair 27 28) 29 ∷ [];
      columns = pair 30 31 ∷ pair 32 33 ∷ pair 34 35 ∷ [];
      has_template = true;
      has_block = false;
    }
unfolding given_in pairs_at bindings_at declared_at
laid_out = refl

-- a run of counts and marks alone
abbrev marked : ℕ → ℕ → List ℕ
marked t d = 0 ∷ 0 ∷ 0 ∷ 0 ∷ 0 ∷ t ∷ d ∷ []

pub marks-told :
    map (λ l. (given_in [] l).has_template) (marked 0 1 ∷ marked 1 0 ∷ []) ++ map (λ l. (given_in [] l).has_block) (marked 0 1 ∷ marked 1 0 ∷ [])
    ≡ false ∷ true ∷ true ∷ false ∷ []
unfolding given_in
marks-told = refl

-- A run is as long as it says, and each mark is 0 or 1. One that says less than it has, or more, is none, in each of its lists.
abbrev lacking : List (List ℕ)
lacking =
    []
    ∷ (0 ∷ 0 ∷ 0 ∷ 0 ∷ 0 ∷ 0 ∷ [])
    ∷ (marked 0 0 ++ 0 ∷ [])
    ∷ (context_laid_out ++ 0 ∷ [])
    ∷ (1 ∷ 0 ∷ 0 ∷ 0 ∷ 0 ∷ 0 ∷ 0 ∷ 0 ∷ [])
    ∷ (0 ∷ 1 ∷ 0 ∷ 0 ∷ 0 ∷ 0 ∷ 0 ∷ 0 ∷ [])
    ∷ (0 ∷ 0 ∷ 1 ∷ 0 ∷ 0 ∷ 0 ∷ 0 ∷ 0 ∷ 0 ∷ 0 ∷ [])
    ∷ (0 ∷ 0 ∷ 0 ∷ 1 ∷ 0 ∷ 0 ∷ 0 ∷ 0 ∷ 0 ∷ [])
    ∷ (0 ∷ 0 ∷ 0 ∷ 0 ∷ 1 ∷ 0 ∷ 0 ∷ 0 ∷ [])
    ∷ marked 2 0
    ∷ marked 0 2
    ∷ []

pub runs_checked :
    map is_run (marked 0 0 ∷ marked 1 1 ∷ context_laid_out ∷ []) ++ map is_run lacking
    ≡ true ∷ true ∷ true ∷ false ∷ false ∷ false ∷ false ∷ false ∷ false ∷ false ∷ false ∷ false ∷ false ∷ false ∷ []
unfolding is_run
runs_checked = refl

-- "K: parameters CL, V, KA; IIV CL, V; template cl=CL, v=V, ka=KA; WT continuous, SEX categorical."
abbrev block : List ℕ
block = bytes "CLVKAclCLvVkaKAWTSEX"

-- K's numbers, with this kind of SEX
abbrev numbers_with : ℕ → List ℕ
numbers_with kind =
    (3 ∷ 2 ∷ 3 ∷ 2 ∷ 0 ∷ 1 ∷ 1 ∷ [])
    ++ (0 ∷ 2 ∷ 2 ∷ 1 ∷ 3 ∷ 2 ∷ [])
    ++ (0 ∷ 2 ∷ 2 ∷ 1 ∷ [])
    ++ (5 ∷ 2 ∷ 7 ∷ 2 ∷ 9 ∷ 1 ∷ 10 ∷ 1 ∷ 11 ∷ 2 ∷ 13 ∷ 2 ∷ [])
    ++ (15 ∷ 2 ∷ 0 ∷ 17 ∷ 3 ∷ kind ∷ [])

abbrev numbers : List ℕ
numbers = numbers_with 1

abbrev bind : String → String → Binding
bind r v = record { role = bytes r; variable = bytes v }

-- What is handed over is K.
abbrev k : Context
k =
    record {
      parameters = map bytes ("CL" ∷ "V" ∷ "KA" ∷ []);
      iiv = map bytes ("CL" ∷ "V" ∷ []);
      template = some (bind "cl" "CL" ∷ bind "v" "V" ∷ bind "ka" "KA" ∷ []);
      block = some (record { name = bytes "WT"; kind = continuous } ∷ record { name = bytes "SEX"; kind = categorical } ∷ []);
      columns = [];
    }

pub handed_k : handed_context block numbers ≡ k
unfolding handed_context given_in pairs_at bindings_at declared_at
handed_k = refl

-- 12 where the run is none, and where its context is none: a name behind the block, a kind above 1.
pub handed_checked :
    is_handed block numbers ∷ is_handed block (numbers ++ 0 ∷ []) ∷ is_handed (bytes "CL") numbers ∷ is_handed block (numbers_with 2) ∷ []
    ≡ true ∷ false ∷ false ∷ false ∷ []
unfolding is_handed is_run given_in pairs_at bindings_at declared_at
    class_of number_rest fraction
handed_checked = refl

-- Resolve as it is called. "COVARIATE(CL,WT,lin,+)" has 22 bytes, an effect and, with the IIV that is dropped, two notes.

abbrev lengths : ℕ → ℕ → ℕ → Lengths
lengths g e n = record { ground = g; effects = e; notes = n }

abbrev sample : String
sample = "COVARIATE(CL,WT,lin,+);IIV(@PD,EXP)"

-- a ceiling, a run, a text, the lengths of the outputs, and that of the working buffer
abbrev calling_under : ℕ → List ℕ → String → Lengths → ℕ → Answer Lengths
calling_under limit run text lent work = lengths_of (resolving_call limit block run (bytes text) lent work)

abbrev calling : List ℕ → String → Lengths → ℕ → Answer Lengths
calling run text lent work = calling_under 64 run text lent work

-- "19 for it comes before every other refusal, later requests' included", so before 21 too; "Reading faults come next, .. then 12, 13", and 19
-- for an output comes last.
pub calls_checked :
    calling numbers sample (lengths 22 1 2) 2048
    ∷ calling numbers sample (lengths 21 1 2) 2048
    ∷ calling numbers sample (lengths 22 0 2) 2048
    ∷ calling numbers sample (lengths 22 1 1) 2048
    ∷ calling numbers sample (lengths 30 9 9) 9999
    ∷ calling numbers sample (lengths 22 1 2) 2047
    ∷ calling (0 ∷ []) "(" (lengths 0 0 0) 2047
    ∷ calling (0 ∷ []) "LAGTIME(" (lengths 0 0 0) 2048
    ∷ calling (0 ∷ []) "LET(A,V);LET(A,V)" (lengths 0 0 0) 2048
    ∷ calling numbers "LET(A,V);LET(A,V)" (lengths 0 0 0) 2048
    ∷ calling_under 257 (0 ∷ []) "(" (lengths 0 0 0) 2047
    ∷ calling_under 257 (0 ∷ []) "(" (lengths 0 0 0) 2048
    ∷ []
    ≡ accepted (lengths 22 1 2)
    ∷ refused 19 0
    ∷ refused 19 0
    ∷ refused 19 0
    ∷ accepted (lengths 22 1 2)
    ∷ refused 19 0
    ∷ refused 19 0
    ∷ refused 3 8
    ∷ refused 12 0
    ∷ refused 13 1
    ∷ refused 19 0
    ∷ refused 21 0
    ∷ []
unfolding resolving_call resolve_handed is_run given_in pairs_at bindings_at declared_at
    resolve_text read_text read_from turn opened feature_made let_made closed
    build_feature feature_of keyword_of transits_of explicit operator_of name_of
    place_of count_at range_of items_of operand_of mode_list firsts modes_of count_list counts_of
    count_of same_word find labels_of keywords
    scanned tokens_after follow front_of dots number_rest fraction class_of
    text_shapes statement_shapes parts_of feature_parts digits_of digits_in
    builtin look_up whole bring merged ground merge_and_ground resolve
calls_checked = refl

-- "Working buffers are zero after every call that found them long enough": 2,048 are, and 2,047 are left as they were.
pub work_zeroed : work_after (replicate 2048 7) ≡ replicate 2048 0
work_zeroed = refl

pub work_kept : work_after (replicate 2047 7) ≡ replicate 2047 7
work_kept = refl

-- All that a call leaves: what it tells, each output with the answer's part at its start and the rest untouched, and the working buffer.

abbrev answered : Resolved
answered = record { statements = feature (Lagtime (modes (1 ∷ []))) ∷ []; effects = five 2 0 1 0 1 ∷ []; notes = note 0 3 ∷ note 1 0 ∷ [] }

abbrev fives : List (List ℕ)
fives = (9 ∷ 9 ∷ 9 ∷ 9 ∷ 9 ∷ []) ∷ (8 ∷ 8 ∷ 8 ∷ 8 ∷ 8 ∷ []) ∷ []

abbrev twos : List (List ℕ)
twos = (9 ∷ 9 ∷ []) ∷ (8 ∷ 8 ∷ []) ∷ (7 ∷ 7 ∷ []) ∷ []

pub leaves_checked :
    Leaves (accepted answered) (λ a. a) (accepted (lengths 11 1 2)) effect_numbers
    (bytes "............")
    (bytes "LAGTIME(ON).")
    fives
    ((2 ∷ 0 ∷ 1 ∷ 0 ∷ 1 ∷ []) ∷ (8 ∷ 8 ∷ 8 ∷ 8 ∷ 8 ∷ []) ∷ [])
    twos
    ((0 ∷ 3 ∷ []) ∷ (1 ∷ 0 ∷ []) ∷ (7 ∷ 7 ∷ []) ∷ [])
    (6 ∷ [])
    (6 ∷ [])
unfolding text_shapes statement_shapes parts_of feature_parts labels_of keywords
leaves_checked = (refl, (refl, (refl, (refl, refl))))

-- a refusal leaves the outputs as they were, and the working buffer zero all the same
pub refused_leaves :
    Leaves (refused 15 2) (λ a. a) (refused 15 2) effect_numbers
    (bytes "...")
    (bytes "...")
    fives
    fives
    twos
    twos
    (replicate 2048 6)
    (replicate 2048 0)
refused_leaves = (refl, (refl, (refl, (refl, refl))))
