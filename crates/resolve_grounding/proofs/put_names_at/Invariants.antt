-- What the loop keeps.
use lib.ListN.{drop}
use Rattle.resolve_context.specs.Lists.{names_in}
use Rattle.print_writing.proofs.Going.{Going}
use Rattle.resolve_grounding.specs.Listed.{listed_bytes}
use Rattle.resolve_grounding.proofs.put_names_at.Given as goal

abbrev pub invariant-loop-i : goal.invariant-loop-i
invariant-loop-i l =
    Going l.initial.out l.at (listed_bytes (names_in l.block l.lists l.names) l.list) l.out l.next
    (listed_bytes (names_in l.block l.lists l.names) (drop l.i l.list))
