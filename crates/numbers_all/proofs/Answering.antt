-- What the call answers: the numbers where there is room, or the refusal.
-- Assumes nothing.
use Prim.Native.Nat.{ℕ, ◌*◌, ◌≤◌}
use native.Mathlib.Omega.{arith}
use mathlib.Core.Path.{◌≡◌, ap, sym, subst}
use mathlib.Core.List.{List}
use lib.ListN.{length}
use Rattle.reading.specs.Statement.{Statement}
use Rattle.read_forms.specs.Faults.{number_of, refused_by}
use Rattle.reading.specs.Answer.{Answer, accepted, refused}
use Rattle.reading.specs.Read.{read_text}
use Rattle.canonical.specs.Print.{Answers}
use Rattle.canonical.specs.Numbers.{all_numbers_of, all_numbered, all_numbering}
use Rattle.canonical_laws.proofs.Rooms.{all-numbers-room}
use Rattle.read_forms.specs.declared.Refusal.{Refusal}
use Rattle.print_writing.specs.Written.{Written}
use Rattle.print_writing.proofs.Answering as filled

-- a text that is refused
pub refused_answers :
    (limit : ℕ) (s before : List ℕ) (r : Refusal)
    → read_text limit s ≡ refused_by r
    → Answers (all_numbering limit s) before before (refused_by r)
unfolding all_numbering
refused_answers limit s before r e = filled.refused_answers before (all_numbering limit s) (number_of r.fault) r.place (ap all_numbered e)

-- a text that is accepted has the numbers of its statements
pub accepted_answers :
    (limit : ℕ) (s before after : List ℕ) (ss : List Statement) (r : Answer ℕ)
    → read_text limit s ≡ accepted ss
    → Answers (accepted (all_numbers_of ss)) before after r
    → Answers (all_numbering limit s) before after r
unfolding all_numbering
accepted_answers limit s before after ss r e h =
    subst (λ (a : Answer (List Statement)). Answers (all_numbered a) before after r) (sym e) h

-- a buffer that has two for each byte of the text has room
pub double_answers :
    (limit : ℕ) (s before after : List ℕ) (ss : List Statement) (r : ℕ)
    → read_text limit s ≡ accepted ss
    → 2 * length s ≤ length before
    → Written before 0 (all_numbers_of ss) after r
    → Answers (all_numbering limit s) before after (accepted r)
unfolding all_numbering
double_answers limit s before after ss r e h w =
    filled.room_answers before (all_numbering limit s) (all_numbers_of ss) (ap all_numbered e) after r
    (omega (arith, all-numbers-room limit s ss e)) w
