-- What the exported calls give and the place of what they refuse are below 2^32, for every text, index and room.
-- Assumes nothing.
use Prim.Native.Nat.{ℕ, ◌<◌}
use native.Mathlib.Omega.{arith}
use mathlib.Core.Path.{◌≡◌, refl}
use mathlib.Core.Bool.{Bool, true, false, cond}
use mathlib.Core.List.{List}
use mathlib.Core.Option.{Option, some, none}
use lib.Dec.{ltb}
use lib.ListN.{length, get_elem?}
use Rattle.reading.specs.Statement.{Statement}
use Rattle.reading.specs.Answer.{Answer, accepted, refused}
use Rattle.reading.specs.Read.{read_text}
use Rattle.reading_laws.proofs.Joining.{accepted-short}
use Rattle.canonical.specs.Print.{length_of, printed, print_text, fitting}
use Rattle.canonical.specs.Numbers.{all_numbered, all_numbering}
use Rattle.canonical_laws.proofs.Shorter.{not_longer}
use Rattle.canonical_laws.proofs.Rereading.{few-statements}
use Rattle.canonical_laws.proofs.Numbers.{few-numbers}
use Rattle.canonical_laws.proofs.Rooms.{all-numbers-room}
use Rattle.claims.proofs.Places.{reading_within}
use Rattle.profiling.specs.Profile.{Yes, profile_text}
use Rattle.profiling.specs.Refused.{RefusedBy, by_reading, by_profile}
use Rattle.profiling.proofs.Places.{refused_by}
use Rattle.reading.specs.Calls.{counted, chosen, nth_of, counting}
use Rattle.reading_laws.proofs.Calls.{found_well}
use Rattle.numbers_statement.specs.Answers.{numbered, numbering}
use Rattle.words.specs.Word.{Below}
use Rattle.read_profile.specs.Answers.{yes_as_zero}

-- a text's fault is told within its first 16,384 bytes
fault_below : (limit : ℕ) (s : List ℕ) (k p : ℕ) → read_text limit s ≡ refused k p → p < 4294967296
fault_below limit s k p e = omega (arith, reading_within limit s k p e)

-- an answer that fits, or the refusal by 19
fitted : (room : ℕ) (a : Answer (List ℕ)) → Below (length_of a) → Below (length_of (fitting room a))
fitted room (refused k p) h = h
fitted room (accepted bs) h = go (ltb room (length bs))
  where
    go : (t : Bool) → Below (length_of (cond t (refused 19 0) (accepted bs)))
    go true = omega arith
    go false = h

pub count-below : (limit : ℕ) (s : List ℕ) → Below (counting limit s)
count-below limit s = go (read_text limit s) refl
  where
    go : (a : Answer (List Statement)) → read_text limit s ≡ a → Below (counted 0 a)
    go (accepted ss) e = omega (arith, few-statements limit s ss e)
    go (refused k p) e = fault_below limit s k p e

pub print_below : (limit room : ℕ) (s : List ℕ) → Below (length_of (fitting room (print_text limit s)))
unfolding print_text
print_below limit room s = fitted room (printed (read_text limit s)) (go (read_text limit s) refl)
  where
    go : (a : Answer (List Statement)) → read_text limit s ≡ a → Below (length_of (printed a))
    go (accepted ss) e = omega (arith, not_longer limit s ss e, accepted-short limit s ss e)
    go (refused k p) e = fault_below limit s k p e

pub statement-below : (limit room : ℕ) (s : List ℕ) (i : ℕ) → i < 4294967296 → Below (length_of (fitting room (numbering limit s i)))
statement-below limit room s i h = fitted room (numbering limit s i) (go (read_text limit s) refl)
  where
    found : (x : Option Statement) → chosen i x ≡ nth_of i (read_text limit s) → Below (length_of (numbered (chosen i x)))
    found none e = h
    found (some x) e = omega (arith, few-numbers limit x (found_well limit s i x e))

    go : (a : Answer (List Statement)) → read_text limit s ≡ a → Below (length_of (numbered (nth_of i a)))
    go (accepted ss) e = found (get_elem? ss i) (rw e)
    go (refused k p) e = fault_below limit s k p e

pub statements-below : (limit room : ℕ) (s : List ℕ) → Below (length_of (fitting room (all_numbering limit s)))
unfolding all_numbering
statements-below limit room s = fitted room (all_numbered (read_text limit s)) (go (read_text limit s) refl)
  where
    go : (a : Answer (List Statement)) → read_text limit s ≡ a → Below (length_of (all_numbered a))
    go (accepted ss) e = omega (arith, all-numbers-room limit s ss e, accepted-short limit s ss e)
    go (refused k p) e = fault_below limit s k p e

pub profile_below : (limit : ℕ) (s : List ℕ) → Below (yes_as_zero (profile_text limit s))
profile_below limit s = go (profile_text limit s) refl
  where
    by-cause : {k p : ℕ} → RefusedBy limit s k p → p < 4294967296
    by-cause {k} {p} (by_reading e) = fault_below limit s k p e
    by-cause (by_profile ss e l m w) = omega (arith, w, few-statements limit s ss e)

    go : (a : Answer Yes) → profile_text limit s ≡ a → Below (yes_as_zero a)
    go (accepted y) e = omega arith
    go (refused k p) e = by-cause (refused_by limit s k p e)
