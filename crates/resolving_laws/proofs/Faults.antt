-- Resolve refuses by the number of a fault: none is 0, and each fits a byte.
-- Assumes nothing.
use Prim.Native.Nat.{ℕ}
use mathlib.Core.Path.{◌≡◌, refl}
use mathlib.Core.Bool.{true, cond}
use mathlib.Core.List.{List}
use mathlib.Core.Option.{Option, some, none}
use lib.Dec.{ltb}
use lib.ListN.{length}
use Rattle.reading.specs.Statement.{Statement}
use Rattle.reading.specs.Answer.{Answer, accepted, refused}
use Rattle.reading_laws.specs.WellFormed.{is_fault, Gives, given, nothing}
use Rattle.reading_laws.proofs.Giving.{gives_bind, fault_given}
use Rattle.reading_laws.proofs.Faults.{Anything, either_gives, text_gives}
use Rattle.text.specs.Lists.{again, gather}
use Rattle.resolving.specs.Context.{Context}
use Rattle.resolving.specs.Symbols.{lets, same_key, look_up}
use Rattle.resolving.specs.Brought.{Brought}
use Rattle.resolving.specs.Merging.{effects_in, forced_again}
use Rattle.resolving.specs.Resolve.{Resolved, ground_text, outcome, at_most_once, up_to, merge_and_ground, resolve}
use Rattle.resolving.specs.Given.{Given, is_context, context_in, resolve_text}
use Rattle.resolving.specs.Handed.{is_run, given_in, resolve_handed}
use Rattle.resolving.specs.Call.{Lengths, lengths_in, exceeds, room_for, working_length, resolving_call}
use Rattle.resolving_laws.proofs.Standing.{all-stand}

module _ {A : Type 0} {P : A → Type 0} where
  once_gives : (n : ℕ) (o : Option ℕ) {a : Answer A} → is_fault n ≡ true → Gives P a → Gives P (at_most_once n o a)
  once_gives n none e g = g
  once_gives n (some i) e g = nothing e

  up_to_gives : (limit n : ℕ) {a : Answer A} → Gives P a → Gives P (up_to limit n a)
  up_to_gives limit n g = either_gives (ltb limit n) (nothing refl) g

merging_gives : (c : Context) (bs : List Brought) → Gives Anything (merge_and_ground c bs)
unfolding merge_and_ground
merging_gives c bs =
    up_to_gives 2048 (length (gather effects_in bs))
    (once_gives 17 (forced_again bs) refl
    (up_to_gives 256 (length (outcome c bs).statements)
    (up_to_gives 16384 (length (ground_text (outcome c bs)))
    (given {a = outcome c bs} tt))))

resolve_gives : (c : Context) (ss : List Statement) → Gives Anything (resolve c ss)
unfolding resolve
resolve_gives c ss =
    once_gives 13 (again same_key (lets ss)) refl (gives_bind (all-stand c (look_up c (lets ss)) 0 ss) (λ bs h. merging_gives c bs))

resolved_gives : (limit : ℕ) (g : Given) (text : List ℕ) → Gives Anything (resolve_text limit g text)
unfolding resolve_text
resolved_gives limit g text =
    gives_bind (text_gives limit text) (λ ss h. either_gives (is_context g) (resolve_gives (context_in g) ss) (nothing refl))

handed_gives : (limit : ℕ) (block numbers text : List ℕ) → Gives Anything (resolve_handed limit block numbers text)
unfolding resolve_handed
handed_gives limit block numbers text =
    either_gives (is_run numbers) (resolved_gives limit (given_in block numbers) text) (gives_bind (text_gives limit text) (λ ss h. nothing refl))

room_gives : (lent : Lengths) {a : Answer Resolved} → Gives Anything a → Gives Anything (room_for lent a)
room_gives lent (given {a = r} h) = either_gives (exceeds lent (lengths_in r)) (nothing refl) (given {a = r} tt)
room_gives lent (nothing e) = nothing e

-- Resolve answers, or refuses by the number of a fault.
pub call_gives :
    (limit : ℕ) (block numbers text : List ℕ) (lent : Lengths) (work : ℕ) → Gives Anything (resolving_call limit block numbers text lent work)
unfolding resolving_call
call_gives limit block numbers text lent work =
    either_gives (ltb work working_length) (nothing refl) (room_gives lent (handed_gives limit block numbers text))
