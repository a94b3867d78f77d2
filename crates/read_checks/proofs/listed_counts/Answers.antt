-- `read_checks::listed_counts` meets its contract. Assumes nothing.
use Rattle.std.proofs.Common.{rules}
use mathlib.Core.Path.{◌≡◌}
use mathlib.Core.List.{[]}
use Rattle.reading.specs.Argument.{counts_of}
use Rattle.read_forms.specs.Items.{entries, items_in}
use Rattle.read_forms.specs.Forms.{counts_in}
use Rattle.read_forms.proofs.Lists.{no_items}
use Rattle.read_checks.proofs.Entries.{listed_some}
use Rattle.read_checks.proofs.Arguments.{counts-array}
use Rattle.read_checks.proofs.listed_counts.Goals.{Else-items-eq0}
use Rattle.read_checks.proofs.listed_counts.Goals as goal

-- past the test the array is not empty
filled : (c : Else-items-eq0) → items_in c.args.text.now c.args.items ≡ [] → ⊥
filled c =
    let a = c.args in
    listed_some a.text.now a.items c.requires.1 c.if-items-eq0.false

pub returns-then-items-eq0 : goal.returns-then-items-eq0
unfolding counts_of entries
returns-then-items-eq0 c =
    let a = c.args in
    rw (c.wrong.ensures, no_items a.text.now a.items c.if-items-eq0.true)

pub returns : goal.returns
unfolding counts_in
returns c = rw (counts-array (filled (goal.at.returns c).Else-items-eq0), ← c.check_counts.ensures, c.in_ok-check_counts.was)

pub returns-in_err-check_counts : goal.returns-in_err-check_counts
returns-in_err-check_counts c =
    rw (counts-array (filled (goal.at.returns-in_err-check_counts c).Else-items-eq0)) (search rules)
