-- `numbers_statement::put_two` meets its contract: one number, then the other.
-- Assumes nothing.
use mathlib.Core.List.{[], ◌∷◌}
use Rattle.print_writing.proofs.Going.{going, further, finished}
use Rattle.numbers_statement.proofs.Pieces.{ready_left, ready_first}
use Rattle.numbers_statement.proofs.put_two.Goals as goal

pub put-next-requires : goal.put-next-requires
put-next-requires c =
    ready_first (c.args.first ∷ []) (c.args.second ∷ []) c.requires (going c.args.out.now _ _)

pub put-requires : goal.put-requires
put-requires c =
    ready_left c.requires (further (going _ _ _) c.put-next.ensures)

pub returns : goal.returns
returns c =
    finished (further (going _ _ _) c.put-next.ensures) c.put.ensures
