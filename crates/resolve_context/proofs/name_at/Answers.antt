-- `resolve_context::name_at` meets its contract: its pair lies in the block. Assumes nothing.
use native.Mathlib.Nat.{add-sub_cancel_left}
use Rattle.resolve_context.proofs.name_at.Goals as goal

pub returns : goal.returns
returns c = simp add-sub_cancel_left c.pair_at-pair.ensures.1
