-- `numbers_statement::put_modes` meets its contract: `*`, or how many modes and which. Assumes nothing.
use mathlib.Core.List.{[], ◌∷◌}
use lib.ListN.{length}
use Rattle.read_packs.specs.Packs.{places}
use Rattle.read_forms.specs.Forms.{modes_in}
use Rattle.print_writing.proofs.Going.{going, further, finished}
use Rattle.numbers_statement.proofs.Pieces.{ready_left, ready_first}
use Rattle.numbers_statement.proofs.put_modes.Goals as goal

pub put-requires : goal.put-requires
unfolding modes_in
put-requires c =
    rw c.in-Wildcard.is at c.requires

pub put_two-next-requires : goal.put_two-next-requires
unfolding modes_in
put_two-next-requires c =
    let n = c.in-List.packed in
    rw c.how_many.ensures (ready_first (1 ∷ length (places n) ∷ []) (places n) (rw c.in-List.is at c.requires) (going c.args.out.now _ _))

pub put_places-requires : goal.put_places-requires
unfolding modes_in
put_places-requires c =
    ready_left (rw c.in-List.is at c.requires) (further (going _ _ _) (rw c.how_many.ensures at c.put_two-next.ensures))

pub returns-in-Wildcard : goal.returns-in-Wildcard
unfolding modes_in
returns-in-Wildcard c =
    rw c.in-Wildcard.is c.put.ensures

pub returns-in-List : goal.returns-in-List
unfolding modes_in
returns-in-List c =
    rw c.in-List.is
    (finished (further (going _ _ _) (rw c.how_many.ensures at c.put_two-next.ensures)) c.put_places.ensures)
