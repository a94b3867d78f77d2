-- `read_features::peripherals` meets its contract. Assumes nothing.
use Rattle.std.proofs.Common.{rules, ◌≡◌, ◌<◌}
use mathlib.Core.Logic.{◌⊎◌, inl, inr}
use Rattle.reading.specs.Feature.{feature_of}
use Rattle.read_forms.specs.Forms.{feature_in}
use Rattle.read_features.proofs.Arity.{one_or_two-not, one_or_two-is}
use Rattle.read_features.proofs.peripherals.Goals.{then-args-eq0-via-then-args-eq0, then-args-eq0-via-else-args-eq0+then-args-gt2}
use Rattle.read_features.proofs.peripherals.Goals as goal

pub returns-then-args-eq0 : goal.returns-then-args-eq0
unfolding feature_of
returns-then-args-eq0 c = λ k e.
    let h : (c.args.args.count ≡ 0) ⊎ (2 < c.args.args.count) =
    elim c.then-args-eq0.branch [
      | then-args-eq0-via-then-args-eq0 w ↦ inl w.if-args-eq0.true
      | then-args-eq0-via-else-args-eq0+then-args-gt2 w ↦ inr w.if-args-gt2.true
    ] in
    rw (c.wrong_number.ensures, one_or_two-not c.args.args h, e)

pub returns-in_err-counts : goal.returns-in_err-counts
unfolding feature_of
returns-in_err-counts c = λ k e.
    rw (one_or_two-is c.args.args c.if-args-eq0.false c.if-args-gt2.false, ← c.counts_of.ensures, c.in_err-counts.was) (search rules)

pub returns-in_err-kind : goal.returns-in_err-kind
unfolding feature_of
returns-in_err-kind c = λ k e.
    rw (
      one_or_two-is c.args.args c.if-args-eq0.false c.if-args-gt2.false,
      ← c.counts_of.ensures,
      c.in_ok-counts.was,
      ← c.second_modes.ensures,
      c.in_err-kind.was,
    )
    (search rules)

pub returns : goal.returns
unfolding feature_of feature_in
returns c = λ k e.
    rw (
      one_or_two-is c.args.args c.if-args-eq0.false c.if-args-gt2.false,
      ← c.counts_of.ensures,
      c.in_ok-counts.was,
      ← c.second_modes.ensures,
      c.in_ok-kind.was,
    )
    (c.mandatory.ensures c.args.text.now k e)
