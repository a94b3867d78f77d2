-- The names, symbols and values of what a text is read as stand in the text: they are among its words and numbers, in their order.
-- Assumes nothing.
use Prim.Native.Nat.{ℕ, ◌+◌, ◌<◌, ◌≤◌}
use native.Mathlib.Omega.{arith}
use mathlib.Core.Path.{◌≡◌, refl}
use mathlib.Core.Bool.{Bool, true}
use mathlib.Core.List.{List, [], ◌∷◌, ◌++◌, append_assoc}
use mathlib.Core.Option.{some}
use borrow.Author.Tests.{lt-ltb}
use lib.ListN.{length, get_elem?}
use Rattle.text.specs.Lists.{all, gather}
use Rattle.tokens.specs.Token.{Shape, word, number, mark, width, Tokens}
use Rattle.reading.specs.Statement.{Name, Statement}
use Rattle.reading.specs.Parts.{Part, parts_of}
use Rattle.reading.specs.Answer.{accepted}
use Rattle.reading.specs.Syntax.{State, name}
use Rattle.reading.specs.Read.{Where, inside, read_text}
use Rattle.reading_laws.specs.Reads.{Reads, over, over_ended, passed, passed_ended, begun, carried, completed}
use Rattle.reading_laws.specs.Spelled.{part_names, statement_names, text_names, end_of, StandIn, no_name, one_before, ends_before, placed_part, as_read}
use Rattle.reading_laws.specs.WellFormed.{well_formed}
use Rattle.reading_laws.specs.Laid.{SpelledAt, Laid, finished, laid}
use Rattle.reading_laws.specs.Among.{Among, none, kept, dropped, state_names, where_names, names_then}
use Rattle.reading_laws.proofs.Joining.{text_reads}
use Rattle.reading_laws.proofs.Among.{among_at, among-all, among_same, among_none, among-append, among_trans}
use Rattle.reading_laws.proofs.Laid.{tokens-laid}
use Rattle.text.proofs.Tests.{both}
use Rattle.text.proofs.Passing.{all_left, all_right, all_both, all_weaker}
use Rattle.reading_laws.proofs.WellRead.{text-well_formed}
use Rattle.reading_laws.proofs.Turning.{leads_more, leads_made}
use Rattle.reading_laws.proofs.NameSteps.{opened-named, turn-named}

-- Names that stand in a text.

module _ {text : List ℕ} where
  -- from an earlier offset on, and some of them
  stand_sooner : {o p : ℕ} {ns : List Name} → p ≤ o → StandIn text o ns → StandIn text p ns
  stand_sooner h no_name = no_name
  stand_sooner {p} h (one_before {n} l s r) = let k : p ≤ n.place = omega arith in one_before k s r

  pub stand_some : {o : ℕ} {ms ns : List Name} → Among ms ns → StandIn text o ns → StandIn text o ms
  stand_some none h = no_name
  stand_some {o = o} (kept {x = x} {xs = xs} {ys = ys} g) (one_before l s r) = one_before l s (stand_some {o = end_of x} g r)
  stand_some (dropped g) (one_before l s r) = stand_sooner (omega (arith, l)) (stand_some g r)

-- Reading.

-- the words and numbers by which statements go on: no keyword, and not the token that completes one
carried_names : {limit n : ℕ} {w : Where} {ts : Tokens} {ss : List Statement} → Reads limit n w ts ss → List Name
carried_names over = []
carried_names over_ended = []
carried_names (passed p r) = carried_names r
carried_names (passed_ended p r) = carried_names r
carried_names (begun p few e r) = carried_names r
carried_names (carried {t} e r) = names_then [] t.place t.shape ++ carried_names r
carried_names (completed e r) = carried_names r

-- the names that were read, a token's, and those to come
names_then_lem : (ns ms : List Name) (o : ℕ) (x : Shape) → names_then ns o x ++ ms ≡ ns ++ (names_then [] o x ++ ms)
names_then_lem ns ms o (word w) = append_assoc ns (name o w ∷ []) ms
names_then_lem ns ms o (number w) = append_assoc ns (name o w ∷ []) ms
names_then_lem ns ms o (mark m) = refl

-- The names of what tokens are read as are names that were read before them, and the tokens'.
reads_names :
    {limit n : ℕ} {w : Where} {ts : Tokens} {ss : List Statement} (r : Reads limit n w ts ss)
    → Among (text_names ss) (where_names w ++ carried_names r)
unfolding carried_names
reads_names over = among_none []
reads_names over_ended = among_none []
reads_names (passed p r) = reads_names r
reads_names (passed_ended p r) = reads_names r
reads_names (begun {t} p few e r) =
    among_trans (reads_names r) (among-append (leads_more (opened-named t.place t.shape) e) (among-all (carried_names r)))
reads_names {limit} (carried {t} {s} e r) =
    among_trans (reads_names r)
    (among_trans (among-append (leads_more (turn-named limit s t.place t.shape) e) (among-all (carried_names r)))
    (among_same (names_then_lem (state_names s) (carried_names r) t.place t.shape)))
reads_names {limit} (completed {t} {s} e r) =
    among-append (leads_made (turn-named limit s t.place t.shape) e) (reads_names r)

-- inside a statement one more token is to come, so the text does not end there
ends_later :
    {limit n : ℕ} {s : State} {text : List ℕ} {o : ℕ} {ts : Tokens} {ss : List Statement}
    → Reads limit n (inside s) ts ss
    → Laid text o ts
    → o < length text
ends_later (carried e r) (laid l k h s d) = omega (arith, l, k, h)
ends_later (completed e r) (laid l k h s d) = omega (arith, l, k, h)

-- a token by which a statement goes on
one-stands :
    {text : List ℕ} {o p : ℕ} (x : Shape) {ns : List Name}
    → o ≤ p
    → SpelledAt text p x
    → p + width x < length text
    → StandIn text (p + width x) ns
    → StandIn text o (names_then [] p x ++ ns)
one-stands (word w) l s h d = one_before l (record { within = h; same = s }) d
one-stands (number w) l s h d = one_before l (record { within = h; same = s }) d
one-stands (mark m) l s h d = stand_sooner (omega (arith, l)) d

names_stand :
    {limit n : ℕ} {w : Where} {text : List ℕ} {o : ℕ} {ts : Tokens} {ss : List Statement} (r : Reads limit n w ts ss)
    → Laid text o ts
    → StandIn text o (carried_names r)
unfolding carried_names
names_stand over finished = no_name
names_stand over_ended finished = no_name
names_stand (passed p r) (laid l k h s d) = stand_sooner (omega (arith, l)) (names_stand r d)
names_stand (passed_ended p r) (laid l k h s d) = stand_sooner (omega (arith, l)) (names_stand r d)
names_stand (begun p few e r) (laid l k h s d) = stand_sooner (omega (arith, l)) (names_stand r d)
names_stand (carried e r) (laid {x} l k h s d) = one-stands x l s (ends_later r d) (names_stand r d)
names_stand (completed e r) (laid l k h s d) = stand_sooner (omega (arith, l)) (names_stand r d)

-- The names, symbols and values of what a text is read as stand in it.
pub text-spelled :
    (limit : ℕ) (text : List ℕ) (ss : List Statement) → read_text limit text ≡ accepted ss → StandIn text 0 (text_names ss)
text-spelled limit text ss e =
    let r = text_reads limit text ss e in
    stand_some (reads_names r) (names_stand r (tokens-laid text))

-- So do those of each statement, and of each of its arguments.
pub statement-spelled :
    (limit : ℕ) (text : List ℕ) (ss : List Statement) (i : ℕ) (s : Statement)
    → read_text limit text ≡ accepted ss
    → get_elem? ss i ≡ some s
    → StandIn text 0 (statement_names s)
statement-spelled limit text ss i s e h = stand_some (among_at statement_names ss i s h) (text-spelled limit text ss e)

pub part-spelled :
    {text : List ℕ} {o : ℕ} (s : Statement) (i : ℕ) (p : Part)
    → StandIn text o (statement_names s)
    → get_elem? (parts_of s).arguments i ≡ some p
    → StandIn text o (part_names p)
part-spelled s i p h e = stand_some (among_at part_names (parts_of s).arguments i p e) h

-- A statement that was read is well formed, and its names end before the text does.

stand-before : {text : List ℕ} {o : ℕ} {ns : List Name} → StandIn text o ns → all (ends_before (length text)) ns ≡ true
stand-before no_name = refl
stand-before {text} (one_before {n} l s r) = both (lt-ltb (end_of n) (length text) s.within) (stand-before r)

-- a test that all that the elements of a list have pass
all-each : {A B : Type 0} (p : B → Bool) (f : A → List B) (xs : List A) → all p (gather f xs) ≡ true → all (λ x. all p (f x)) xs ≡ true
all-each p f [] e = refl
all-each p f (x ∷ xs) e = both (all_left p (f x) (gather f xs) e) (all-each p f xs (all_right p (f x) (gather f xs) e))

pub text-as_read :
    (limit : ℕ) (text : List ℕ) (ss : List Statement) → read_text limit text ≡ accepted ss → all (as_read limit (length text)) ss ≡ true
text-as_read limit text ss e =
    let before = ends_before (length text) in
    all_both (well_formed limit) (λ s. all (placed_part (length text)) (parts_of s).arguments) ss (text-well_formed limit text ss e)
    (all_weaker (λ s h. all-each before part_names (parts_of s).arguments h) ss
    (all-each before statement_names ss (stand-before (text-spelled limit text ss e))))
