-- `read_statements::is_let` meets its contract. Assumes nothing.
use Rattle.read_statements.proofs.is_let.Goals as goal

pub returns : goal.returns
returns c = rw (c.same_word.ensures, c.spelling.ensures)
