-- Document 01, Holding the calls to their word, 3, in the words of the calls' contracts: Count answers `counting`, Statement `stating`, as
-- numbers for other languages `numbering`, Print `print_text` and Resolve `resolving_call`. "Full size is 16,384 bytes of text, 2,048 effects, 257
-- notes and the working length."
--
-- Joining: "A, newline, B read as A's statements and then B's with offsets raised by A's length and one" (`Joined`, of `read_values`).
-- Reordering: for "every accepted file D of A's statements in whatever order" and every context, D resolves exactly when A does, and to the same
-- set of effects. The statements are compared by value (`SameStatements`), or by the numbers of the exported Statement (`SameValues`).
-- Rereading: "A's ground text, read and resolved with C again, gives its own bytes back with nothing dropped."
use Rattle.std.specs.Prelude.{ℕ, ◌≡◌, false, List, [], ◌∷◌, length}
use Rattle.text.specs.Bytes.{count_up}
use Rattle.reading.specs.Statement.{Statement}
use Rattle.reading.specs.Answer.{Answer, accepted, refused}
use Rattle.canonical.specs.Numbers.{numbers_of}
use Rattle.canonical.specs.Print.{print_text}
use Rattle.canonical_laws.specs.Forgotten.{forget}
use Rattle.reading.specs.Calls.{counting, stating}
use Rattle.numbers_statement.specs.Answers.{numbering}
use Rattle.text.specs.Lists.{any, keep, gather}
use Rattle.resolving.specs.Resolve.{Resolved, ground_text}
use Rattle.resolving.specs.Call.{Lengths, resolving_call}
use Rattle.resolving_laws.specs.Alike.{Alike}
use Rattle.resolving_laws.specs.Same.{occurrences}
use Rattle.resolving_laws.specs.Claims.{SameEffects, is_dropped}
use Rattle.claims.specs.Values.{Value, value_in, same_value}

abbrev pub full_size : Lengths
full_size = let ground : ℕ = 16384 in record { ground = ground; effects = 2048; notes = 257 }

-- What Statement gives at each of the first so many indexes, "once each pair is replaced by the bytes it points to".
abbrev pub stated : Answer Statement → List Statement
stated (accepted s) = forget s ∷ []
stated (refused n p) = []

abbrev pub statements_of : ℕ → List ℕ → ℕ → List Statement
statements_of limit text n = gather (λ i. stated (stating limit text i)) (count_up 0 n)

-- "Accepted: Count refuses nothing." "D has each as often as A."
pub record SameStatements (limit : ℕ) (a d : List ℕ) : Type 0 where
  pub first : ℕ
  pub second : ℕ
  pub counts : counting limit a ≡ accepted first
  pub counts_too : counting limit d ≡ accepted second
  pub as_often : (s : Statement) → occurrences s (statements_of limit a first) ≡ occurrences s (statements_of limit d second)

-- Two statements that Statement gives have equal numbers, each pair of which is replaced by the bytes it points to, exactly where they are equal
-- without their places.
pub record ToldByNumbers (a d : List ℕ) (s t : Statement) : Type 0 where
  pub same : value_in a (numbers_of s) ≡ value_in d (numbers_of t) → forget s ≡ forget t
  pub equal : forget s ≡ forget t → value_in a (numbers_of s) ≡ value_in d (numbers_of t)

-- "D has each as often as A", of these numbers.
abbrev pub valued : List ℕ → Answer (List ℕ) → List Value
valued text (accepted ns) = value_in text ns ∷ []
valued text (refused n p) = []

abbrev pub values_of : ℕ → List ℕ → ℕ → List Value
values_of limit text n = gather (λ i. valued text (numbering limit text i)) (count_up 0 n)

abbrev pub value_occurrences : Value → List Value → ℕ
value_occurrences v vs = length (keep (same_value v) vs)

pub record SameValues (limit : ℕ) (a d : List ℕ) : Type 0 where
  pub first : ℕ
  pub second : ℕ
  pub counts : counting limit a ≡ accepted first
  pub counts_too : counting limit d ≡ accepted second
  pub as_often : (v : Value) → value_occurrences v (values_of limit a first) ≡ value_occurrences v (values_of limit d second)

-- "Resolves: Resolve refuses nothing. Effects are compared as their five numbers, listing order ignored."
abbrev pub Reordered : ℕ → List ℕ → List ℕ → ℕ → List ℕ → List ℕ → Type 0
Reordered limit block numbers work a d =
    Alike SameEffects (resolving_call limit block numbers a full_size work) (resolving_call limit block numbers d full_size work)

-- "Dropped: a note of reason 0."
pub record Reread (limit : ℕ) (block numbers : List ℕ) (work : ℕ) (r : Resolved) : Type 0 where
  pub count : ℕ
  pub counts : counting limit (ground_text r) ≡ accepted count
  pub prints : print_text limit (ground_text r) ≡ accepted (ground_text r)
  pub result : Resolved
  pub resolves : resolving_call limit block numbers (ground_text r) full_size work ≡ accepted result
  pub same : ground_text result ≡ ground_text r
  pub undropped : any is_dropped result.notes ≡ false
  pub same-effects : SameEffects r result
