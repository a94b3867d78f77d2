-- `read_values::found_lists` meets its contract: the lists of a statement's parts, or none. Assumes nothing.
use Rattle.read_values.proofs.found_lists.Goals as goal

pub returns-in-Ok : goal.returns-in-Ok
returns-in-Ok c =
    rw (c.in-Ok.is, ← c.parts_of-parts.ensures, c.names_in.ensures, c.names_in-in-Ok.ensures, c.counts_in.ensures)

pub returns-in-Err : goal.returns-in-Err
returns-in-Err c = rw (c.in-Err.is, c.no_items-none.ensures)
