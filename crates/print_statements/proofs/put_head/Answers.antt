-- `print_statements::put_head` meets its contract: the keyword, its `?`, and the `(`.
-- Assumes nothing.
use Rattle.print_writing.proofs.Going.{going, further, finished}
use Rattle.print_statements.proofs.put_head.Goals as goal

pub returns : goal.returns
returns c =
    let e = c.keyword_label.ensures in
    finished (further (further (going _ _ _) (rw e at c.put_all-first.ensures)) c.put_question-second.ensures) c.put.ensures
