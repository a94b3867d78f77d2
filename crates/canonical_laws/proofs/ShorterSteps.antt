-- What a token makes of what was read of a statement is no longer than that and the token; a whole statement as it is printed is not
-- either.
-- Assumes nothing.
use Prim.Native.Nat.{ℕ, ◌+◌, ◌≤◌}
use native.Mathlib.Omega.{arith}
use mathlib.Core.Path.{◌≡◌}
use mathlib.Core.Bool.{Bool, true, false, cond}
use mathlib.Core.List.{List, [], ◌∷◌, ◌++◌, map}
use lib.ListN.{length}
use Rattle.text.specs.Bytes.{bytes, is}
use Rattle.tokens.specs.Token.{Shape, mark, width}
use Rattle.labels.specs.Label.{keywords}
use Rattle.reading.specs.Statement.{Name, Kind, a_word, a_number, Item, Statement, Let}
use Rattle.reading.specs.Parts.{parts_of}
use Rattle.reading.specs.Argument.{Arg}
use Rattle.reading.specs.Syntax.{State, Step, more, made, item_as, name, opened, turn}
use Rattle.reading_laws.specs.Turned.{goes, makes, halts, Opened, Turned}
use Rattle.reading_laws.specs.Turned as case
use Rattle.reading_laws.proofs.Giving.{value-given}
use Rattle.reading_laws.proofs.Turning.{opening, turning}
use Rattle.canonical.specs.Canonical.{name_shape, bare_one, item_shape, statement_shapes}
use Rattle.canonical_laws.specs.Shorter.{widths, name_width, item_widths, arg_width, arg_widths, state_width, Within}
use Rattle.canonical_laws.proofs.ShorterLists.{name_shape-width, call_shapes-width}
use Rattle.canonical_laws.proofs.ShorterArguments.{same_length, range_shorter, part_shorter}
use Rattle.canonical_laws.proofs.ShorterFeatures.{build_shorter}

-- a step to a state and one to a statement, where the step tells them
on : {n : ℕ} {s : State} → state_width s ≤ n → Within n (more s)
on h = goes h

done : {n : ℕ} {x : Statement} → widths (statement_shapes x) ≤ n → Within n (made x)
done h = makes h

-- a mark has a byte
pub mark_width : (m : ℕ) → 1 ≤ width (mark m)
mark_width m = go (is "." m)
  where
    go : (t : Bool) → 1 ≤ cond t 2 1
    go true = omega arith
    go false = omega arith

-- one more item, and one more argument
items_more :
    (items : List Item) (k : Kind) (o : ℕ) (w : List ℕ)
    → item_widths (items ++ item_as k o w ∷ []) ≡ item_widths items + length w + 1
items_more [] k o w = omega (arith, name_shape-width (name o w))
items_more (i ∷ items) k o w = omega (arith, items_more items k o w)

args_more : (args : List Arg) (a : Arg) → arg_widths (args ++ a ∷ []) ≡ arg_widths args + arg_width a + 1
args_more [] a = omega arith
args_more (b ∷ bs) a = omega (arith, args_more bs a)

-- a LET
let_width :
    (n : Name) (items : List Item)
    → widths (statement_shapes (Let n items)) ≡ 5 + name_width n + widths (bare_one (map item_shape items)) + 1
unfolding statement_shapes parts_of keywords
let_width n items =
    let args = (name_shape n ∷ []) ∷ bare_one (map item_shape items) ∷ [] in
    omega (arith, name_shape-width n, call_shapes-width (bytes "LET") false args (omega arith))

opened_as_within : {o : ℕ} {x : Shape} {y : Step} → Opened o x y → Within (width x) y
opened_as_within (case.no_statement f) = halts f
opened_as_within case.a_keyword = on (omega arith)
opened_as_within (case.a_let_keyword {w} e) = on (omega (arith, same_length w (bytes "LET") e))

turned_within : {limit : ℕ} {s : State} {o : ℕ} {x : Shape} {y : Step} → Turned limit s o x y → Within (state_width s + width x) y
turned_within (case.refusing f) = halts f
turned_within (case.questioned {m}) = on (omega (arith, mark_width m))
turned_within (case.called {m}) = on (omega (arith, mark_width m))
turned_within (case.called_marked {m}) = on (omega (arith, mark_width m))
turned_within (case.called_let {m}) = on (omega (arith, mark_width m))
turned_within case.named = on (omega arith)
turned_within (case.valued {m}) = on (omega (arith, mark_width m))
turned_within case.a_word_alone = on (omega arith)
turned_within case.a_number_first = on (omega arith)
turned_within (case.a_star {m}) = on (omega (arith, mark_width m))
turned_within (case.a_plus {m}) = on (omega (arith, mark_width m))
turned_within (case.an_at {m}) = on (omega (arith, mark_width m))
turned_within (case.a_bracket {m}) = on (omega (arith, mark_width m))
turned_within {limit} (case.no_argument {k} {q} {m} e) = done (omega (arith, value-given (build_shorter limit k q []) e))
turned_within case.a_symbol = on (omega arith)
turned_within (case.a_number_alone t) = turned_within t
turned_within (case.points {m} e) = on (simp e (omega arith))
turned_within (case.a_range t) = on (omega (arith, range_shorter t))
turned_within (case.first_word {o} {w}) = on (omega (arith, name_shape-width (name o w)))
turned_within (case.first_number {o} {w}) = on (omega (arith, name_shape-width (name o w)))
turned_within (case.empty_array {m}) = on (omega (arith, mark_width m))
turned_within (case.next_word {o} {items} {w} few) = on (omega (arith, items_more items a_word o w))
turned_within (case.next_number {o} {items} {w} few) = on (omega (arith, items_more items a_number o w))
turned_within (case.item_comma {m}) = on (omega (arith, mark_width m))
turned_within (case.an_array {m}) = on (omega (arith, mark_width m))
turned_within (case.argument_comma {args} {a} {m}) = on (omega (arith, args_more args a, mark_width m))
turned_within {limit} (case.a_feature {k} {q} {args} {a} {m} e) =
    done (omega (arith, value-given (build_shorter limit k q (args ++ a ∷ [])) e, args_more args a, mark_width m))
turned_within (case.a_let {n} {m} {items} t) = done (omega (arith, let_width n items, (part_shorter t).1, mark_width m))

-- A statement's first token is no shorter than what it makes.
pub opened-within : (o : ℕ) (x : Shape) → Within (width x) (opened o x)
opened-within o x = opened_as_within (opening o x)

-- What a token makes of what was read is no longer than both.
pub turn-within : (limit : ℕ) (s : State) (o : ℕ) (x : Shape) → Within (state_width s + width x) (turn limit s o x)
turn-within limit s o x = turned_within (turning limit s o x)
