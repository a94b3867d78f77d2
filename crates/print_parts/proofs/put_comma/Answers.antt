-- `print_parts::put_comma` meets its contract.
-- Assumes nothing.
use Rattle.print_writing.proofs.Writing.{nothing_written}
use Rattle.print_parts.proofs.Bytes.{behind-last, behind_more}
use Rattle.print_parts.proofs.put_comma.Goals as goal

pub returns-then-left-lt2 : goal.returns-then-left-lt2
returns-then-left-lt2 c = rw (behind-last _ c.if-left-lt2.true) (nothing_written _ _)

pub put-requires : goal.put-requires
put-requires c = rw (behind_more _ c.if-left-lt2.false) at c.requires

pub returns : goal.returns
returns c = rw (behind_more _ c.if-left-lt2.false) c.put.ensures
