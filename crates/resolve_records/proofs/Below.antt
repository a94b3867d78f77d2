-- What Resolve gives and the place of what it refuses are small enough for its word: full size always suffices, and no place is above 16,384.
-- Assumes nothing.
use Prim.Native.Nat.{ℕ}
use native.Mathlib.Omega.{arith}
use mathlib.Core.Path.{◌≡◌, refl}
use mathlib.Core.Bool.{Bool, true, false, cond, ◌||◌}
use mathlib.Core.List.{List}
use borrow.Author.Tests.{ltb-false}
use lib.Dec.{ltb}
use lib.ListN.{length}
use Rattle.reading.specs.Statement.{Statement}
use Rattle.reading.specs.Answer.{Answer, accepted, refused, ◌>>=◌}
use Rattle.reading.specs.Read.{read_text}
use Rattle.resolving.specs.Resolve.{Resolved, ground_text}
use Rattle.resolving.specs.Given.{Given, resolve_text}
use Rattle.resolving.specs.Handed.{is_run, given_in, resolve_handed}
use Rattle.resolving.specs.Call.{Lengths, exceeds, lengths_in, room_for, resolving_call, lengths_of, working_length}
use Rattle.claims.specs.Claims.{full_size}
use Rattle.claims.proofs.FullSize.{resolved_fits}
use Rattle.claims.proofs.Places.{reading_within, resolved_within, at_most}
use Rattle.resolve_records.specs.Words.{Small}

room_enough : (r : Resolved) → exceeds full_size (lengths_in r) ≡ false → Small (lengths_of (accepted r))
room_enough r e = by_tests (ltb 16384 (length (ground_text r))) (ltb 2048 (length r.effects)) (ltb 257 (length r.notes)) refl refl refl e
  where
    by_tests :
        (g f n : Bool)
        → ltb 16384 (length (ground_text r)) ≡ g
        → ltb 2048 (length r.effects) ≡ f
        → ltb 257 (length r.notes) ≡ n
        → (g || (f || n)) ≡ false
        → Small (lengths_of (accepted r))
    by_tests false false false a b c h = (ltb-false _ _ a, (ltb-false _ _ b, ltb-false _ _ c))
    by_tests true f n a b c h = let z : ◌≡◌ {A = ℕ} 0 1 = cc in absurd (omega arith)
    by_tests false true n a b c h = let z : ◌≡◌ {A = ℕ} 0 1 = cc in absurd (omega arith)
    by_tests false false true a b c h = let z : ◌≡◌ {A = ℕ} 0 1 = cc in absurd (omega arith)

text-small : (limit : ℕ) (g : Given) (text : List ℕ) → Small (lengths_of (resolve_text limit g text))
text-small limit g text = by_answer (resolve_text limit g text) refl
  where
    by_answer : (a : Answer Resolved) → resolve_text limit g text ≡ a → Small (lengths_of a)
    by_answer (accepted r) e = room_enough r (resolved_fits limit g text r e)
    by_answer (refused k p) e = omega (arith, at_most (resolved_within limit g text) e)

handed-small : (limit : ℕ) (block numbers text : List ℕ) → Small (lengths_of (resolve_handed limit block numbers text))
unfolding resolve_handed
handed-small limit block numbers text = by_run (is_run numbers)
  where
    by_read : (a : Answer (List Statement)) → read_text limit text ≡ a → Small (lengths_of (a >>= (λ ss. refused 12 0)))
    by_read (accepted ss) e = omega arith
    by_read (refused k p) e = omega (arith, reading_within limit text k p e)

    by_run : (t : Bool) → Small (lengths_of (cond t (resolve_text limit (given_in block numbers) text) (read_text limit text >>= (λ ss. refused 12 0))))
    by_run true = text-small limit (given_in block numbers) text
    by_run false = by_read (read_text limit text) refl

pub resolved_small : (limit : ℕ) (block numbers text : List ℕ) (lent : Lengths) (work : ℕ) → Small (lengths_of (resolving_call limit block numbers text lent work))
unfolding resolving_call
resolved_small limit block numbers text lent work =
    by-work (ltb work working_length) (resolve_handed limit block numbers text) (handed-small limit block numbers text)
  where
    by-room : (t : Bool) (r : Resolved) → Small (lengths_of (accepted r)) → Small (lengths_of (cond t (refused 19 0) (accepted r)))
    by-room true r h = omega arith
    by-room false r h = h

    by-work : (t : Bool) (a : Answer Resolved) → Small (lengths_of a) → Small (lengths_of (cond t (refused 19 0) (room_for lent a)))
    by-work true a h = omega arith
    by-work false (accepted r) h = by-room (exceeds lent (lengths_in r)) r h
    by-work false (refused k p) h = h
