-- `read_forms::spelling` meets its contract: the part is as long as the name.
-- Assumes nothing.
use native.Mathlib.Nat.{add-sub_cancel_left}
use Rattle.read_forms.proofs.spelling.Goals as goal

pub returns : goal.returns
returns c = rw add-sub_cancel_left
