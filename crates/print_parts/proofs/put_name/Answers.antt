-- `print_parts::put_name` meets its contract: the part of the text is the name's spelling.
-- Assumes nothing.
use Rattle.print_parts.proofs.put_name.Goals as goal

pub put_all-requires : goal.put_all-requires
put_all-requires c = rw c.spelling.ensures c.requires.1

pub returns : goal.returns
returns c =
    rw c.spelling.ensures at c.put_all.ensures
