-- `resolve_merging_few::forced_again` meets its contract. The invariant: none of the terms so far forces a pair again, and what is found from here on is
-- what is found in all.
-- Assumes nothing.
use mathlib.Core.Path.{sym, ◌∙◌}
use Rattle.resolve_merging_few.proofs.Forcing.{forcing_test, forcing-next}
use Rattle.resolve_merging_few.proofs.forced_again.Goals as goal

pub returns-then-forced : goal.returns-then-forced
returns-then-forced c =
    rw (sym c.forced.ensures ∙ c.if-forced.true) at (forcing_test c.loop-i-test.true c.requires c.loop-i.invariant)

pub loop-i-preserved : goal.loop-i-preserved
loop-i-preserved c =
    forcing-next c.loop-i-test.true c.requires c.loop-i.invariant (sym c.forced.ensures ∙ c.if-forced.false)
