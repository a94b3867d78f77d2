-- `tokens::skip` meets its contract. The invariant: the tokens from here on are those from the start on. Assumes nothing.
use mathlib.Core.Path.{refl, ◌∙◌}
use mathlib.Core.Bool.{and-false}
use native.Mathlib.Omega.{arith}
use borrow.Author.Tests.{lt-leb}
use Rattle.tokens.proofs.skip.Goals.{
  then-class-lt-BLANK-via-then-class-lt-BLANK,
  then-class-lt-BLANK-via-else-class-lt-BLANK+then-class-gt-HASH,
}
use Rattle.tokens.proofs.skip.Goals as goal

pub loop-i-init : goal.loop-i-init
loop-i-init c = refl

pub class_at-class-requires : goal.class_at-class-requires
class_at-class-requires c = (c.requires, c.loop-i-test.true)

pub returns-then-class-lt-BLANK : goal.returns-then-class-lt-BLANK
returns-then-class-lt-BLANK c = record {
  same = c.loop-i.invariant;
  stands = λ h.
      elim c.then-class-lt-BLANK.branch [
        | then-class-lt-BLANK-via-then-class-lt-BLANK w ↦ simp (← c.class_at-class.ensures, lt-leb 4 _ w.if-class-lt-BLANK.true)
        | then-class-lt-BLANK-via-else-class-lt-BLANK+then-class-gt-HASH w ↦ simp (← c.class_at-class.ensures, lt-leb _ 5 w.if-class-gt-HASH.true, and-false)
      ];
}

pub passed-i-requires : goal.passed-i-requires
passed-i-requires c = (
  c.requires,
  record {
    inside = c.loop-i-test.true;
    class_is = c.class_at-class.ensures;
    least = c.if-class-lt-BLANK.false;
    most = c.if-class-gt-HASH.false;
  },
)

pub loop-i-smaller : goal.loop-i-smaller
loop-i-smaller c = omega (arith, c.passed-i.ensures.further, c.passed-i.ensures.within)

pub loop-i-preserved : goal.loop-i-preserved
loop-i-preserved c = c.loop-i.invariant ∙ c.passed-i.ensures.same

pub returns : goal.returns
returns c = record { same = c.loop-i.invariant; stands = λ h. absurd (omega (arith, c.loop-i-test.false)) }
