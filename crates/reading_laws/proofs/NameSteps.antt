-- The names of what a token makes are names that were read before it, and its own.
-- Assumes nothing.
use Prim.Native.Nat.{ℕ}
use mathlib.Core.Path.{◌≡◌, sym}
use mathlib.Core.Bool.{Bool}
use mathlib.Core.List.{List, [], ◌∷◌, ◌++◌, append_assoc, append-nil, map-append}
use Rattle.tokens.specs.Token.{Shape}
use Rattle.reading.specs.Statement.{Name, Item, feature}
use Rattle.reading.specs.Parts.{Part, parts_of}
use Rattle.reading.specs.Argument.{Arg}
use Rattle.reading.specs.Feature.{build_feature}
use Rattle.reading.specs.Syntax.{Call, State, Step, name, opened, turn}
use Rattle.reading_laws.specs.WellFormed.{Gives}
use Rattle.reading_laws.specs.Taken.{from_to, TakenAs, Others, over, next, left_out, multiplied, meant, added, Taken, first}
use Rattle.reading_laws.specs.Taken as taken
use Rattle.reading_laws.specs.Spelled.{item_names, part_names, parts_names, statement_names}
use Rattle.reading_laws.specs.Among.{Among, kept, arg_names, args_names, call_names, state_names, names_then}
use Rattle.reading_laws.specs.Turned.{Leads, goes, makes, halts, Opened, Turned}
use Rattle.reading_laws.specs.Turned as case
use Rattle.reading_laws.proofs.Giving.{gives_more, value-given}
use Rattle.reading_laws.proofs.Parts.{build_taken}
use Rattle.reading_laws.proofs.Turning.{opening, turning}
use Rattle.reading_laws.proofs.Among.{among-all, among_same, among_none, among-append, among_trans}

-- what an argument is taken for has its names
part_names_lem : {limit : ℕ} {a : Arg} {p : Part} → TakenAs limit a p → Among (part_names p) (arg_names a)
part_names_lem taken.every_mode = among_none _
part_names_lem (taken.one_mode e) = among_none _
part_names_lem (taken.some_modes e) = among_none _
part_names_lem (taken.one_count e) = among_none _
part_names_lem taken.a_range = among_none _
part_names_lem (taken.some_counts e) = among_none _
part_names_lem (taken.an_n e) = among_none _
part_names_lem taken.every_name = among_none _
part_names_lem taken.a_symbol = among-all _
part_names_lem taken.one_name = among-all _
part_names_lem taken.some_names = among-all _
part_names_lem taken.a_name = among-all _
part_names_lem taken.one_value = among-all _
part_names_lem taken.some_values = among-all _

others-names : {limit : ℕ} {bs : List Arg} {ps : List Part} → Others limit bs ps → Among (parts_names ps) (args_names bs)
others-names over = among_none _
others-names (next h t) = among-append (part_names_lem h) (others-names t)
others-names left_out = among_none _
others-names multiplied = among_none _
others-names meant = among_none _
others-names added = among_none _

taken-names : {limit : ℕ} {bs : List Arg} {ps : List Part} → Taken limit bs ps → Among (parts_names ps) (args_names bs)
taken-names (first h t) = others-names (next h t)

build_names :
    (limit : ℕ) (k : Name) (m : Bool) (args : List Arg)
    → Gives (λ f. Among (statement_names (feature f)) (args_names args)) (build_feature limit k m args)
unfolding parts_of
build_names limit k m args = gives_more (build_taken limit k m args) λ f b. taken-names b.2.arguments

-- one more item, and one more argument
items_more :
    (c : Call) (items : List Item) (i : Item) → call_names c ++ item_names (items ++ i ∷ []) ≡ (call_names c ++ item_names items) ++ i.name ∷ []
items_more c items i = simp (map-append, append_assoc)

args_more : (args : List Arg) (a : Arg) → args_names (args ++ a ∷ []) ≡ args_names args ++ arg_names a
args_more [] a = append-nil (arg_names a)
args_more (b ∷ bs) a = simp (args_more bs a, append_assoc)

-- Steps.

-- so much of a statement has only such names, and the whole of it only those
abbrev pub Named : List Name → List Name → Step → Type 0
Named ns ms x = Leads (λ s. Among (state_names s) ns) (λ s. Among (statement_names s) ms) x

opened_as_named : {o : ℕ} {x : Shape} {y : Step} → Opened o x y → Named [] [] y
opened_as_named (case.no_statement f) = halts f
opened_as_named case.a_keyword = goes (among-all [])
opened_as_named (case.a_let_keyword e) = goes (among-all [])

turned_named : {limit : ℕ} {s : State} {o : ℕ} {x : Shape} {y : Step} → Turned limit s o x y → Named (names_then (state_names s) o x) (state_names s) y
unfolding parts_of
turned_named (case.refusing f) = halts f
turned_named case.questioned = goes (among-all [])
turned_named case.called = goes (among-all [])
turned_named case.called_marked = goes (among-all [])
turned_named case.called_let = goes (among-all [])
turned_named case.named = goes (among-all _)
turned_named case.valued = goes (among-all _)
turned_named case.a_word_alone = goes (among-all _)
turned_named case.a_number_first = goes (among-all _)
turned_named (case.a_star {c}) = goes (among_same (append-nil (call_names c)))
turned_named (case.a_plus {c}) = goes (among_same (append-nil (call_names c)))
turned_named case.an_at = goes (among-all _)
turned_named case.a_bracket = goes (among-all _)
turned_named {limit} (case.no_argument {k} {q} e) = makes (value-given (build_names limit k q []) e)
turned_named case.a_symbol = goes (among-all _)
turned_named (case.a_number_alone t) = turned_named t
turned_named (case.points d) = goes (among-all _)
turned_named (case.a_range {c} {n} {o} {w} (from_to x y l)) =
    goes (among_trans (among-append (among-all (call_names c)) (among_none (n ∷ name o w ∷ [])))
    (among_same (sym (append_assoc (call_names c) (n ∷ []) (name o w ∷ [])))))
turned_named case.first_word = goes (among-all _)
turned_named case.first_number = goes (among-all _)
turned_named (case.empty_array {c}) = goes (among_same (append-nil (call_names c)))
turned_named (case.next_word {c} {items} few) = goes (among_same (items_more c items _))
turned_named (case.next_number {c} {items} few) = goes (among_same (items_more c items _))
turned_named case.item_comma = goes (among-all _)
turned_named case.an_array = goes (among-all _)
turned_named (case.argument_comma {args} {a}) = goes (among_same (args_more args a))
turned_named {limit} (case.a_feature {k} {q} {args} {a} e) =
    makes (among_trans (value-given (build_names limit k q (args ++ a ∷ [])) e) (among_same (args_more args a)))
turned_named (case.a_let {items} t) = makes (kept (among_trans (among_same (append-nil (item_names items))) (part_names_lem t)))

-- A statement's first token, which is no name of it, and each token after it: the last is none of its names either.
pub opened-named : (o : ℕ) (x : Shape) → Named [] [] (opened o x)
opened-named o x = opened_as_named (opening o x)

pub turn-named : (limit : ℕ) (s : State) (o : ℕ) (x : Shape) → Named (names_then (state_names s) o x) (state_names s) (turn limit s o x)
turn-named limit s o x = turned_named (turning limit s o x)
