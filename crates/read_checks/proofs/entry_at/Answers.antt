-- `read_checks::entry_at` meets its contract: the token is a word or a number, since it is an entry of a list. Assumes nothing.
use Rattle.tokens.proofs.Views.{known}
use Rattle.read_checks.proofs.Entries.{Next, next_here}
use Rattle.read_checks.proofs.entry_at.Goals.{After-token-token}
use Rattle.read_checks.proofs.entry_at.Goals as goal

-- the token as an entry
it : (c : After-token-token) → Next c.args.text.now c.args.cur.at c.token-token.result
it c =
    let a = c.args in
    next_here a.text.now a.cur.at c.token-token.result c.requires.1 (known a.text.now a.cur.at c.token-token.result c.token-token.ensures)

pub overflow_sub-name : goal.overflow_sub-name
overflow_sub-name c = (it (goal.at.overflow_sub-name c).After-token-token).wide

pub returns : goal.returns
returns c = rw c.kind_of.ensures (it (goal.at.returns c).After-token-token).entry
