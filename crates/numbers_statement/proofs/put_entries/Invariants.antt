-- What the loop keeps, and what it counts down.
use Rattle.read_forms.specs.Items.{tokens_from, entries}
use Rattle.numbers_statement.specs.Entries.{entries_numbers}
use Rattle.numbers_statement.proofs.Entries.{Left}
use Rattle.numbers_statement.proofs.put_entries.Given as goal

abbrev pub invariant-loop-left : goal.invariant-loop-left
invariant-loop-left l = Left l.entry l.text l.initial.out l.at (entries_numbers l.entry (entries l.initial.left (tokens_from l.text l.initial.cur.at))) l.out l.next l.left l.cur.at

abbrev pub decreases-loop-left : goal.decreases-loop-left
decreases-loop-left l = l.left
