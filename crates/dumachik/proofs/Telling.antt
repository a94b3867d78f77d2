-- Each call's word tells its answer, for every input: a refusal's number is 1 to 21, or 24 of the profile, and its place below 2^32, and so is what is given, or, by
-- Resolve, small enough for its bits.
-- Assumes nothing.
use Prim.Native.Nat.{ℕ, ◌+◌, ◌*◌, ◌/◌, ◌%◌, ◌≤◌, ◌<◌}
use native.Mathlib.Omega.{arith}
use mathlib.Core.Path.{◌≡◌, refl, sym, ◌∙◌, ap}
use mathlib.Core.Bool.{true}
use mathlib.Core.List.{List}
use mathlib.Core.Option.{Option, some, none}
use borrow.Author.Tests.{eq-eqb, ne_eqb}
use lib.Dec.{ltb}
use lib.ListN.{length, get_elem?}
use Rattle.reading.specs.Statement.{Statement}
use Rattle.reading.specs.Answer.{Answer, accepted, refused}
use Rattle.reading_laws.specs.WellFormed.{is_fault, Gives, given, nothing}
use Rattle.reading_laws.proofs.Giving.{fault_given}
use Rattle.reading_laws.proofs.Faults.{Anything, either_gives, text_gives, refused_fault, fault_least, fault_most}
use Rattle.canonical.specs.Print.{length_of, fitting, printed, print_text}
use Rattle.canonical.specs.Numbers.{all_numbered, all_numbering}
use Rattle.resolving.specs.Resolve.{Resolved}
use Rattle.resolving.specs.Call.{Lengths, lengths_of, resolving_call}
use Rattle.resolving_laws.proofs.Faults.{call_gives}
use Rattle.reading.proofs.Answers.{not-refused}
use Rattle.reading.specs.Calls.{counted, counting, chosen, nth_of}
use Rattle.numbers_statement.specs.Answers.{numbered, numbering}
use Rattle.resolve_records.specs.Words.{lengths_word, resolved_word, Small}
use Rattle.resolve_records.proofs.Below.{resolved_small}
use Rattle.profiling.specs.Profile.{Yes, profile_text}
use Rattle.profiling.specs.Refused.{RefusedBy, by_reading, by_profile}
use Rattle.profiling.proofs.Places.{refused_by}
use Rattle.words.specs.Word.{word, Below, answer_in}
use Rattle.read_profile.specs.Answers.{yes_as_zero}
use Rattle.dumachik.specs.Told.{resolved_in}
use Rattle.words.proofs.Telling.{place-told, word-told}
use Rattle.dumachik.proofs.Below.{count-below, print_below, statement-below, statements-below, profile_below}

byte_told : (k p : ℕ) → p < 4294967296 → is_fault k ≡ true → (k * 4294967296 + p) / 4294967296 % 256 ≡ k
byte_told k p h f = omega (arith, fault_most k f)

-- an answer that is refused by the number of a fault
fault_told : (a : Answer ℕ) → Gives Anything a → Below a → answer_in (word a) ≡ a
fault_told a g h = word-told a (λ k p e. fault_least k (fault_given g e)) h

-- three lengths, each by its bits
module _ (n : Lengths) (h : Small (accepted n)) where
  no_number : lengths_word n / 4294967296 % 256 ≡ 0
  no_number =
      let q : lengths_word n / 4294967296 ≡ n.notes * 256 = omega (arith, h.0, h.1) in
      ap (λ (k : ℕ). k % 256) q ∙ omega arith

  ground-told : lengths_word n % 65536 ≡ n.ground
  ground-told =
      let q : lengths_word n ≡ n.ground + (n.effects + n.notes * 16777216) * 65536 = omega arith in
      ap (λ (k : ℕ). k % 65536) q ∙ omega (arith, h.0)

  effects_told : lengths_word n / 65536 % 65536 ≡ n.effects
  effects_told =
      let q : lengths_word n / 65536 ≡ n.effects + n.notes * 16777216 = omega (arith, h.0, h.1) in
      ap (λ (k : ℕ). k % 65536) q ∙ omega (arith, h.1)

  notes-told : lengths_word n / 1099511627776 ≡ n.notes
  notes-told = omega (arith, h.0, h.1)

resolved_told : (a : Answer Lengths) → Gives Anything a → Small a → resolved_in (resolved_word a) ≡ a
resolved_told (accepted n) g h =
    rw (eq-eqb (lengths_word n / 4294967296 % 256) 0 (no_number n h), ground-told n h, effects_told n h, notes-told n h)
resolved_told (refused k p) (nothing f) h =
    let l : p < 4294967296 = omega (arith, h) in
    rw (byte_told k p l f, place-told k p l, ne_eqb k 0 (λ e. omega (arith, fault_least k f)))

-- What each call answers is refused by the number of a fault, if it is.

counted_gives : {a : Answer (List Statement)} → Gives Anything a → Gives Anything (counted 0 a)
counted_gives (given h) = given tt
counted_gives (nothing e) = nothing e

printed_gives : {a : Answer (List Statement)} → Gives Anything a → Gives Anything (printed a)
printed_gives (given h) = given tt
printed_gives (nothing e) = nothing e

chosen_gives : (i : ℕ) (o : Option Statement) → Gives Anything (numbered (chosen i o))
chosen_gives i none = nothing refl
chosen_gives i (some s) = given tt

numbered_gives : (i : ℕ) {a : Answer (List Statement)} → Gives Anything a → Gives Anything (numbered (nth_of i a))
numbered_gives i (given {a = ss} h) = chosen_gives i (get_elem? ss i)
numbered_gives i (nothing e) = nothing e

all_numbered_gives : {a : Answer (List Statement)} → Gives Anything a → Gives Anything (all_numbered a)
all_numbered_gives (given h) = given tt
all_numbered_gives (nothing e) = nothing e

length_gives : {a : Answer (List ℕ)} → Gives Anything a → Gives Anything (length_of a)
length_gives (given h) = given tt
length_gives (nothing e) = nothing e

fitting_gives : (room : ℕ) {a : Answer (List ℕ)} → Gives Anything a → Gives Anything (fitting room a)
fitting_gives room (given {a = ns} h) = either_gives (ltb room (length ns)) (nothing refl) (given tt)
fitting_gives room (nothing e) = nothing e

lengths_give : {a : Answer Resolved} → Gives Anything a → Gives Anything (lengths_of a)
lengths_give (given h) = given tt
lengths_give (nothing e) = nothing e

-- The words of the calls tell their answers.

pub count-told : (limit : ℕ) (text : List ℕ) → answer_in (word (counting limit text)) ≡ counting limit text
count-told limit text = fault_told (counting limit text) (counted_gives (text_gives limit text)) (count-below limit text)

pub print_told :
    (limit room : ℕ) (text : List ℕ)
    → answer_in (word (length_of (fitting room (print_text limit text)))) ≡ length_of (fitting room (print_text limit text))
unfolding print_text
print_told limit room text =
    fault_told (length_of (fitting room (print_text limit text))) (length_gives (fitting_gives room (printed_gives (text_gives limit text)))) (print_below limit room text)

pub statement-told :
    (limit room : ℕ) (text : List ℕ) (i : ℕ)
    → i < 4294967296
    → answer_in (word (length_of (fitting room (numbering limit text i)))) ≡ length_of (fitting room (numbering limit text i))
statement-told limit room text i h =
    fault_told (length_of (fitting room (numbering limit text i))) (length_gives (fitting_gives room (numbered_gives i (text_gives limit text))))
    (statement-below limit room text i h)

pub statements-told :
    (limit room : ℕ) (text : List ℕ)
    → answer_in (word (length_of (fitting room (all_numbering limit text)))) ≡ length_of (fitting room (all_numbering limit text))
unfolding all_numbering
statements-told limit room text =
    fault_told (length_of (fitting room (all_numbering limit text))) (length_gives (fitting_gives room (all_numbered_gives (text_gives limit text))))
    (statements-below limit room text)

pub profile_told : (limit : ℕ) (text : List ℕ) → answer_in (word (yes_as_zero (profile_text limit text))) ≡ yes_as_zero (profile_text limit text)
profile_told limit text = word-told (yes_as_zero (profile_text limit text)) (go (profile_text limit text) refl) (profile_below limit text)
  where
    by-cause : {k p : ℕ} → RefusedBy limit text k p → 1 ≤ k
    by-cause {k} {p} (by_reading e) = fault_least k (refused_fault limit text k p e)
    by-cause (by_profile ss e l m w) = omega (arith, l)

    go : (a : Answer Yes) → profile_text limit text ≡ a → (k p : ℕ) → yes_as_zero a ≡ refused k p → 1 ≤ k
    go (accepted y) h k p e = absurd (not-refused (sym e))
    go (refused n q) h k p e =
        let z : n ≡ k = cc in
        omega (arith, by-cause (refused_by limit text n q h), z)

pub resolve-told :
    (limit : ℕ) (block numbers text : List ℕ) (lent : Lengths) (work : ℕ)
    → resolved_in (resolved_word (lengths_of (resolving_call limit block numbers text lent work)))
    ≡ lengths_of (resolving_call limit block numbers text lent work)
resolve-told limit block numbers text lent work =
    resolved_told (lengths_of (resolving_call limit block numbers text lent work)) (lengths_give (call_gives limit block numbers text lent work))
    (resolved_small limit block numbers text lent work)
