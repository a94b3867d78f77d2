-- `print_lines::put_refused` meets its contract. Assumes nothing.
use Rattle.print_lines.proofs.put_refused.Goals as goal

pub returns : goal.returns
returns c = rw (← c.number_of.ensures) c.put_words.ensures
