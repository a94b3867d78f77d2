-- A reading that is accepted has passed every byte: code may scan the text only where reading refuses.
-- Assumes nothing.
use Rattle.std.specs.Prelude.{None}
use Prim.Native.Nat.{ℕ}
use mathlib.Core.Path.{◌≡◌, refl}
use mathlib.Core.List.{List}
use Rattle.tokens.specs.Token.{Tokens}
use Rattle.tokens.specs.Next.{scanned}
use Rattle.reading.specs.Statement.{Statement}
use Rattle.reading.specs.Answer.{accepted}
use Rattle.reading.specs.Read.{Where, read_from}
use Rattle.reading_laws.specs.Reads.{Reads, over, over_ended, passed, passed_ended, begun, carried, completed}
use Rattle.reading_laws.proofs.Accepting.{accepted_reads}

-- tokens that are read to their end have no byte among them that starts none
reads_whole : {limit n : ℕ} {w : Where} {ts : Tokens} {ss : List Statement} → Reads limit n w ts ss → scanned ts ≡ None
unfolding scanned
reads_whole over = refl
reads_whole over_ended = refl
reads_whole (passed p r) = reads_whole r
reads_whole (passed_ended p r) = reads_whole r
reads_whole (begun p h o r) = reads_whole r
reads_whole (carried e r) = reads_whole r
reads_whole (completed e r) = reads_whole r

-- Where reading accepts, every byte of the text is in order.
pub accepted-whole :
    (limit size n : ℕ) (w : Where) (ts : Tokens) (ss : List Statement) → read_from limit size n w ts ≡ accepted ss → scanned ts ≡ None
accepted-whole limit size n w ts ss e = reads_whole (accepted_reads limit size n w ts ss e)
