-- `tokens::run_end` meets its contract. The invariant: the run has come to `i`. Assumes nothing.
use mathlib.Core.Path.{◌≡◌, refl}
use mathlib.Core.Bool.{and-false}
use native.Mathlib.Omega.{arith}
use lib.ListN.{length}
use borrow.Author.Tests.{le-leb, lt-leb}
use Rattle.tokens.proofs.Runs.{ran_stops, ran_on, ran_ends}
use Rattle.tokens.proofs.run_end.Goals.{then-class-lo-via-then-class-lo, then-class-lo-via-else-class-lo+then-hi-class}
use Rattle.tokens.proofs.run_end.Goals as goal

pub loop-i-init : goal.loop-i-init
loop-i-init c = record { within = omega arith; same = refl }

pub class_at-class-requires : goal.class_at-class-requires
class_at-class-requires c = (c.requires.0, omega arith)

pub returns-then-class-lo : goal.returns-then-class-lo
returns-then-class-lo c = ran_stops c.loop-i.invariant (omega arith)
    (elim c.then-class-lo.branch [
      | then-class-lo-via-then-class-lo w ↦ simp (← c.class_at-class.ensures, lt-leb _ _ w.if-class-lo.true)
      | then-class-lo-via-else-class-lo+then-hi-class w ↦ simp (← c.class_at-class.ensures, lt-leb _ _ w.if-hi-class.true, and-false)
    ])

pub loop-i-preserved : goal.loop-i-preserved
loop-i-preserved c = ran_on c.loop-i.invariant (omega arith)
    (simp (← c.class_at-class.ensures, le-leb _ _ c.if-class-lo.false, le-leb _ _ c.if-hi-class.false))

pub returns : goal.returns
returns c =
    let ends : length c.args.text.now ≡ c.loop-i.i = omega (arith, c.loop-i.invariant.within) in
    rw ends (ran_ends c.loop-i.invariant (omega arith))
