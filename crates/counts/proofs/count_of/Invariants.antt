-- What the loop keeps: what is left of the text, after the value of what was passed, is the count of the whole text; and that value is not above
-- the limit, so that ten times it and a digit fit.
use Rattle.std.proofs.Common.{◌≡◌, ◌≤◌, drop}
use Rattle.counts.specs.Count.{count_of}
use Rattle.counts.proofs.CountAfter.{count_after}
use Rattle.counts.proofs.count_of.Given as goal

abbrev pub invariant-loop-digit : goal.invariant-loop-digit
invariant-loop-digit l = record {
  low : l.value ≤ l.limit;
  same : count_after l.limit l.value (drop l.digit-index l.digits) ≡ count_of l.limit l.digits;
}
