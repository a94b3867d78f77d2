-- `print_lines::put_name` meets its contract: the entry's name, or nothing where there is no entry. Assumes nothing.
use Rattle.print_writing.proofs.Writing.{nothing_written}
use Rattle.print_lines.proofs.Effects.{no_name}
use Rattle.print_lines.proofs.put_name.Goals as goal

pub returns-then-names-index : goal.returns-then-names-index
returns-then-names-index c =
    let a = c.args in
    rw (no_name a.block.now a.lists.now a.names a.index c.if-names-index.true) (nothing_written a.out.now a.at)

pub put_all-requires : goal.put_all-requires
put_all-requires c = rw c.name_at-name.ensures c.requires.1

pub returns : goal.returns
returns c =
    rw c.name_at-name.ensures at c.put_all.ensures
