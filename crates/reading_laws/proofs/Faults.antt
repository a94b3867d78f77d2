-- What is refused is so by the number of a fault: none is 0, and each fits a byte.
-- Assumes nothing.
use Rattle.std.specs.Prelude.{Option, Some, None}
use Prim.Native.Nat.{ℕ, suc, ◌≤◌}
use mathlib.Core.Path.{◌≡◌, refl}
use mathlib.Core.Bool.{Bool, true, false, cond}
use mathlib.Core.List.{List}
use borrow.Author.Tests.{leb-true}
use lib.Dec.{leb, ltb}
use lib.ListN.{length}
use Rattle.tokens.specs.Token.{Tokens, finish, bad, ◌▸◌}
use Rattle.tokens.specs.Lex.{tokens}
use Rattle.tokens.specs.Next.{scanned}
use Rattle.text.proofs.Tests.{and_left, and_right}
use Rattle.reading.specs.Statement.{Statement}
use Rattle.reading.specs.Answer.{Answer, refused}
use Rattle.reading.specs.Syntax.{State, Step}
use Rattle.reading.specs.Read.{is_separator, Where, between, ended, inside, prepend, onward, read_from, read_scanned, read_text}
use Rattle.reading_laws.specs.WellFormed.{is_fault, Gives, given, nothing}
use Rattle.reading_laws.specs.Turned.{Leads, goes, makes, halts}
use Rattle.reading_laws.proofs.Giving.{fault_given}
use Rattle.reading_laws.proofs.NameSteps.{opened-named, turn-named}

-- whatever is accepted
abbrev pub Anything : {A : Type 0} → A → Type 0
Anything x = Unit {0}

-- one answer or another, by a test
pub either_gives : {A : Type 0} {P : A → Type 0} (t : Bool) {x y : Answer A} → Gives P x → Gives P y → Gives P (cond t x y)
either_gives true h g = h
either_gives false h g = g

prepend_gives : (s : Statement) {r : Answer (List Statement)} → Gives Anything r → Gives Anything (prepend s r)
prepend_gives s (given h) = given tt
prepend_gives s (nothing e) = nothing e

onward_gives :
    {P : State → Type 0} {Q : Statement → Type 0} {x : Step} (f : State → Answer (List Statement)) {r : Answer (List Statement)}
    → Leads P Q x
    → ((s : State) → Gives Anything (f s))
    → Gives Anything r
    → Gives Anything (onward x f r)
onward_gives f (goes {s} h) g k = g s
onward_gives f (makes {x} h) g k = prepend_gives x k
onward_gives f (halts e) g k = nothing e

module _ (limit size : ℕ) where
  read_gives : (n : ℕ) (w : Where) (ts : Tokens) → Gives Anything (read_from limit size n w ts)
  unfolding read_from
  read_gives n between finish = given tt
  read_gives n ended finish = given tt
  read_gives n (inside s) finish = nothing refl
  read_gives n between (bad o) = nothing refl
  read_gives n ended (bad o) = nothing refl
  read_gives n (inside s) (bad o) = nothing refl
  read_gives n between (t ▸ ts) =
      either_gives (is_separator t.shape) (read_gives n between ts)
      (either_gives (leb 256 n) (nothing refl)
      (onward_gives _ (opened-named t.place t.shape) (λ s. read_gives n (inside s) ts) (read_gives n between ts)))
  read_gives n ended (t ▸ ts) =
      either_gives (is_separator t.shape) (read_gives n between ts) (either_gives (leb 256 n) (nothing refl) (nothing refl))
  read_gives n (inside s) (t ▸ ts) =
      onward_gives _ (turn-named limit s t.place t.shape) (λ next. read_gives n (inside next) ts) (read_gives (suc n) ended ts)

  scanned_gives : (ts : Tokens) (r : Option ℕ) → Gives Anything (read_scanned limit size ts r)
  scanned_gives ts None = read_gives 0 between ts
  scanned_gives ts (Some o) = nothing refl

-- A text is accepted, or refused by the number of a fault.
pub text_gives : (limit : ℕ) (text : List ℕ) → Gives Anything (read_text limit text)
unfolding read_text
text_gives limit text =
    either_gives (ltb 256 limit) (nothing refl)
    (either_gives (ltb 16384 (length text)) (nothing refl)
    (scanned_gives limit (length text) (tokens text) (scanned (tokens text))))

pub refused_fault : (limit : ℕ) (text : List ℕ) (n p : ℕ) → read_text limit text ≡ refused n p → is_fault n ≡ true
refused_fault limit text n p e = fault_given (text_gives limit text) e

-- The number of a fault.
pub fault_least : (n : ℕ) → is_fault n ≡ true → 1 ≤ n
fault_least n e = leb-true 1 n (and_left (leb 1 n) (leb n 21) e)

pub fault_most : (n : ℕ) → is_fault n ≡ true → n ≤ 21
fault_most n e = leb-true n 21 (and_right (leb 1 n) (leb n 21) e)
