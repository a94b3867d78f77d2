-- `resolve_symbols::key_at` meets its contract. Assumes nothing.
use native.Mathlib.Nat.{add-sub_cancel_left}
use Rattle.resolve_symbols.proofs.key_at.Goals as goal

pub returns : goal.returns
returns c = rw add-sub_cancel_left
