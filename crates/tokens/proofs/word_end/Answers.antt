-- `tokens::word_end` meets its contract. The invariant: the run has come to `i`. No class is above a letter's, so one test of a class is
-- enough. Assumes nothing.
use mathlib.Core.Path.{◌≡◌, refl}
use native.Mathlib.Omega.{arith}
use lib.ListN.{length}
use borrow.Author.Tests.{le-leb, lt-leb}
use Rattle.tokens.proofs.Classes.{class_top}
use Rattle.tokens.proofs.Runs.{ran_stops, ran_on, ran_ends}
use Rattle.tokens.proofs.word_end.Goals as goal

pub loop-i-init : goal.loop-i-init
loop-i-init c = record { within = omega arith; same = refl }

pub class_at-requires : goal.class_at-requires
class_at-requires c = (c.requires.0, omega arith)

pub returns-then-class_at-lt-HYPHEN : goal.returns-then-class_at-lt-HYPHEN
returns-then-class_at-lt-HYPHEN c = ran_stops c.loop-i.invariant (omega arith) (simp (← c.class_at.ensures, lt-leb 7 _ c.if-class_at-lt-HYPHEN.true))

pub loop-i-preserved : goal.loop-i-preserved
loop-i-preserved c = ran_on c.loop-i.invariant (omega arith) (simp (class_top, ← c.class_at.ensures, le-leb 7 _ c.if-class_at-lt-HYPHEN.false))

pub returns : goal.returns
returns c =
    let ends : length c.args.text.now ≡ c.loop-i.i = omega (arith, c.loop-i.invariant.within) in
    rw ends (ran_ends c.loop-i.invariant (omega arith))
