-- What Print answers, by whether the buffer has room.
-- Assumes nothing.
use mathlib.Core.Path.{◌≡◌, ap}
use mathlib.Core.List.{List}
use Prim.Native.Nat.{ℕ, ◌≤◌, ◌<◌}
use lib.ListN.{length}
use Rattle.reading.specs.Statement.{Statement}
use Rattle.reading.specs.Answer.{accepted, refused}
use Rattle.reading.specs.Read.{read_text}
use Rattle.canonical.specs.Canonical.{canonical}
use Rattle.canonical.specs.Print.{printed, print_text, Answers}
use Rattle.print_writing.specs.Written.{Written}
use Rattle.print_writing.proofs.Answering as filled
use Rattle.read_forms.specs.declared.Refusal.{Refusal}
use Rattle.read_forms.specs.Faults.{number_of, refused_by}

-- a text that is refused
pub refused_answers :
    (limit : ℕ) (s before : List ℕ) (r : Refusal)
    → read_text limit s ≡ refused_by r
    → Answers (print_text limit s) before before (refused_by r)
unfolding print_text
refused_answers limit s before r e = filled.refused_answers before (print_text limit s) (number_of r.fault) r.place (ap printed e)

module _ (limit : ℕ) (s before after : List ℕ) (ss : List Statement) (e : read_text limit s ≡ accepted ss) where
  it : print_text limit s ≡ accepted (canonical ss)
  unfolding print_text
  it = ap printed e

  pub room_answers : (r : ℕ) → length (canonical ss) ≤ length before → Written before 0 (canonical ss) after r → Answers (print_text limit s) before after (accepted r)
  room_answers r h w = filled.room_answers before (print_text limit s) (canonical ss) it after r h w

  pub no_room_answers : length before < length (canonical ss) → after ≡ before → Answers (print_text limit s) before after (refused 19 0)
  no_room_answers h q = filled.short-answers before (print_text limit s) (canonical ss) it after h q
