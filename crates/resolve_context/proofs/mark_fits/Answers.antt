-- `resolve_context::mark_fits` meets its contract, test by test. Assumes nothing.
use native.Mathlib.Omega.{arith}
use borrow.Author.Tests.{ne_eqb, lt-leb}
use Rattle.resolve_context.specs.Lists.{mark_fits}
use Rattle.resolve_context.proofs.mark_fits.Goals as goal

pub returns-then-mark-eq1 : goal.returns-then-mark-eq1
unfolding mark_fits
returns-then-mark-eq1 c = simp c.if-mark-eq1.true

pub returns-then-mark-eq0 : goal.returns-then-mark-eq0
unfolding mark_fits
returns-then-mark-eq0 c = simp c.if-mark-eq0.true

pub returns-else-mark-eq0 : goal.returns-else-mark-eq0
unfolding mark_fits
returns-else-mark-eq0 c = simp (ne_eqb _ 0 c.if-mark-eq0.false, lt-leb c.args.mark 1 (omega (arith, c.if-mark-eq1.false, c.if-mark-eq0.false)))
