-- `numbers_statement::put_three` meets its contract: one number, then two. Assumes nothing.
use mathlib.Core.List.{[], ◌∷◌}
use Rattle.print_writing.proofs.Going.{going, further, finished}
use Rattle.numbers_statement.proofs.Pieces.{ready_left, ready_first}
use Rattle.numbers_statement.proofs.put_three.Goals as goal

pub put-next-requires : goal.put-next-requires
put-next-requires c =
    ready_first (c.args.first ∷ []) (c.args.second ∷ c.args.third ∷ []) c.requires (going c.args.out.now _ _)

pub put_two-requires : goal.put_two-requires
put_two-requires c =
    ready_left c.requires (further (going _ _ _) c.put-next.ensures)

pub returns : goal.returns
returns c =
    finished (further (going _ _ _) c.put-next.ensures) c.put_two.ensures
