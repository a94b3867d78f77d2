-- Reading of tokens, a separator, and more tokens; and after another number of statements.
-- Assumes nothing.
use Prim.Native.Nat.{ℕ, suc, ◌+◌, ◌<◌, ◌≤◌}
use native.Mathlib.Omega.{arith}
use native.Mathlib.Nat.{add-zero, suc-add, add-suc}
use mathlib.Core.Path.{◌≡◌}
use mathlib.Core.List.{List}
use borrow.Author.Tests.{lt-leb}
use lib.ListN.{length}
use Rattle.tokens.specs.Token.{Tokens, ◌▸◌, separator}
use Rattle.token_laws.specs.Join.{append}
use Rattle.reading.specs.Statement.{Statement}
use Rattle.reading.specs.Answer.{accepted}
use Rattle.reading.specs.Syntax.{State}
use Rattle.reading.specs.Read.{Where, between, inside, read_from}
use Rattle.reading_laws.specs.Reads.{Reads, over, over_ended, passed, passed_ended, begun, carried, completed, prepend_all}
use Rattle.reading_laws.proofs.Accepting.{accepted_reads, reads_accepted}

-- what is read to its end, and a separator, leave the tokens after it to be read where a statement may start
reads_append :
    (limit size p : ℕ) (us : Tokens) {n : ℕ} {w : Where} {ts : Tokens} {ss : List Statement}
    → Reads limit n w ts ss
    → read_from limit size n w (append ts (record { place = p; shape = separator } ▸ us))
    ≡ prepend_all ss (read_from limit size (n + length ss) between us)
unfolding read_from
reads_append limit size p us over = simp add-zero
reads_append limit size p us over_ended = simp add-zero
reads_append limit size p us (passed e r) = simp e (reads_append limit size p us r)
reads_append limit size p us (passed_ended e r) = simp e (reads_append limit size p us r)
reads_append limit size p us (begun {n} e h o r) = simp (e, lt-leb 256 n h, o) (reads_append limit size p us r)
reads_append limit size p us (carried e r) = simp e (reads_append limit size p us r)
reads_append limit size p us (completed e r) = simp (e, reads_append limit size p us r, suc-add, add-suc)

-- Tokens that are accepted, a separator, and more tokens: the statements of the first, and then what the rest is read as after them.
pub reading_appends :
    (limit size size' n p : ℕ) (w : Where) (ts us : Tokens) (ss : List Statement)
    → read_from limit size n w ts ≡ accepted ss
    → read_from limit size' n w (append ts (record { place = p; shape = separator } ▸ us))
    ≡ prepend_all ss (read_from limit size' (n + length ss) between us)
reading_appends limit size size' n p w ts us ss e = reads_append limit size' p us (accepted_reads limit size n w ts ss e)

-- inside a statement there is one more to come
inside-more :
    {limit n : ℕ} {s : State} {ts : Tokens} {ss : List Statement} → Reads limit n (inside s) ts ss → 0 < length ss
inside-more (carried e r) = inside-more r
inside-more (completed e r) = omega arith

-- what is read after some statements is read after others, where the whole keeps within 256
reads_after :
    {limit n : ℕ} {w : Where} {ts : Tokens} {ss : List Statement} (m : ℕ) → Reads limit n w ts ss → m + length ss ≤ 256 → Reads limit m w ts ss
reads_after m over h = over
reads_after m over_ended h = over_ended
reads_after m (passed e r) h = passed e (reads_after m r h)
reads_after m (passed_ended e r) h = passed_ended e (reads_after m r h)
reads_after m (begun e l o r) h = begun {n = m} e (omega (arith, inside-more r)) o (reads_after m r h)
reads_after m (carried e r) h = carried e (reads_after m r h)
reads_after m (completed e r) h = completed e (reads_after (suc m) r (omega arith))

-- What is accepted after some statements is accepted after any number of them that leaves the whole within 256, in a text of any size.
pub accepted_after :
    (limit size size' n m : ℕ) (w : Where) (ts : Tokens) (ss : List Statement)
    → read_from limit size n w ts ≡ accepted ss
    → m + length ss ≤ 256
    → read_from limit size' m w ts ≡ accepted ss
accepted_after limit size size' n m w ts ss e h =
    reads_accepted limit size' (reads_after m (accepted_reads limit size n w ts ss e) h)
