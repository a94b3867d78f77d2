-- `read_checks::after_entry` meets its contract: the token behind the entry is passed, whatever it is. Assumes nothing.
use mathlib.Core.Path.{ap}
use Rattle.tokens.specs.declared.Token.{Token}
use Rattle.read_checks.specs.Answers.{goes_on}
use Rattle.read_checks.proofs.after_entry.Goals as goal

pub returns : goal.returns
unfolding goes_on
returns c = ap (λ (t : Token). t.next.at) c.token-comma.ensures
