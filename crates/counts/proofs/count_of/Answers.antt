-- `counts::count_of` meets its contract. Assumes nothing.
use Rattle.std.proofs.Common.{arith, sym, ◌∙◌}
use Rattle.counts.proofs.CountAfter.{count_of-empty, count_after_start, count_after_digit, count_after_other, count_after_above, count_after_end}
use Rattle.counts.proofs.count_of.Goals as goal

pub returns-then-is_empty : goal.returns-then-is_empty
returns-then-is_empty c = sym (count_of-empty _ _ (grind arith))

pub loop-digit-init : goal.loop-digit-init
loop-digit-init c = record { low = omega arith; same = count_after_start _ _ (grind arith) }

pub returns-then-not-is_ascii_digit : goal.returns-then-not-is_ascii_digit
returns-then-not-is_ascii_digit c =
    sym (count_after_other _ _ _ _ c.loop-digit-test.true (sym c.is_ascii_digit.ensures.value ∙ c.if-not-is_ascii_digit.true))
    ∙ c.loop-digit.invariant.same

pub returns-then-most-value : goal.returns-then-most-value
returns-then-most-value c =
    sym (count_after_above _ _ _ c.if-most-value.true)
    ∙ sym (count_after_digit _ _ _ _ c.loop-digit-test.true (sym c.is_ascii_digit.ensures.value ∙ c.if-not-is_ascii_digit.false))
    ∙ c.loop-digit.invariant.same

pub loop-digit-preserved : goal.loop-digit-preserved
loop-digit-preserved c = record {
  low = c.if-most-value.false;
  same = sym (count_after_digit _ _ _ _ c.loop-digit-test.true (sym c.is_ascii_digit.ensures.value ∙ c.if-not-is_ascii_digit.false))
      ∙ c.loop-digit.invariant.same;
}

pub returns : goal.returns
returns c =
    sym (count_after_end _ _ _ _ c.loop-digit-test.false c.loop-digit.invariant.low c.ranges.limit.fits)
    ∙ c.loop-digit.invariant.same
