-- `read_features::transits_of` meets its contract. Assumes nothing.
use Rattle.std.proofs.Common.{rules}
use Rattle.reading.specs.Feature.{transits_of}
use Rattle.read_forms.specs.Forms.{transits_in}
use Rattle.read_features.proofs.Arity.{second_none, second_some}
use Rattle.read_features.proofs.transits_of.Goals as goal

pub returns-in_err-counts : goal.returns-in_err-counts
unfolding transits_of
returns-in_err-counts c = rw (← c.is_n.ensures, c.if-not-is_n.true, ← c.counts_of.ensures, c.in_err-counts.was) (search rules)

pub returns-then-not-is_n : goal.returns-then-not-is_n
unfolding transits_of transits_in
returns-then-not-is_n c = rw (← c.is_n.ensures, c.if-not-is_n.true, ← c.counts_of.ensures, c.in_ok-counts.was)

pub returns-then-args-eq1 : goal.returns-then-args-eq1
unfolding transits_of transits_in
returns-then-args-eq1 c = rw (← c.is_n.ensures, c.if-not-is_n.false, second_none c.args.args c.if-args-eq1.true)

pub returns : goal.returns
unfolding transits_of
returns c =
    let a = c.args in
    rw (← c.is_n.ensures, c.if-not-is_n.false, second_some a.args c.if-args-eq1.false, c.place_of.ensures a.text.now)
