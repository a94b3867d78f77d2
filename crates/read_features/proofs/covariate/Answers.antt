-- `read_features::covariate` meets its contract. Assumes nothing.
use Rattle.std.proofs.Common.{rules, ◌<◌}
use mathlib.Core.Logic.{◌⊎◌, inl, inr}
use Rattle.reading.specs.Feature.{feature_of}
use Rattle.read_features.proofs.Arity.{three_or_four-not}
use Rattle.read_features.proofs.Building.{covariate-is}
use Rattle.read_features.proofs.covariate.Goals.{then-args-lt3-via-then-args-lt3, then-args-lt3-via-else-args-lt3+then-args-gt4}
use Rattle.read_features.proofs.covariate.Goals as goal

pub returns-then-args-lt3 : goal.returns-then-args-lt3
unfolding feature_of
returns-then-args-lt3 c = λ limit k e.
    let h : (c.args.args.count < 3) ⊎ (4 < c.args.args.count) =
    elim c.then-args-lt3.branch [
      | then-args-lt3-via-then-args-lt3 w ↦ inl w.if-args-lt3.true
      | then-args-lt3-via-else-args-lt3+then-args-gt4 w ↦ inr w.if-args-gt4.true
    ] in
    rw (c.wrong_number.ensures, three_or_four-not c.args.args h, e)

pub returns-in_err-parameters : goal.returns-in_err-parameters
returns-in_err-parameters c = λ limit k e.
    rw (
      covariate-is c.args.optional c.args.args c.if-args-lt3.false c.if-args-gt4.false,
      ← (c.operand_of.ensures c.args.text.now c.requires.2.first),
      c.in_err-parameters.was,
    )
    (search rules)

pub returns-in_err-covariates : goal.returns-in_err-covariates
returns-in_err-covariates c = λ limit k e.
    rw (
      covariate-is c.args.optional c.args.args c.if-args-lt3.false c.if-args-gt4.false,
      ← (c.operand_of.ensures c.args.text.now c.requires.2.first),
      c.in_ok-parameters.was,
      ← (c.operand_of-2.ensures c.args.text.now c.requires.2.second),
      c.in_err-covariates.was,
    )
    (search rules)

pub returns : goal.returns
returns c = λ limit k e.
    rw (
      covariate-is c.args.optional c.args.args c.if-args-lt3.false c.if-args-gt4.false,
      ← (c.operand_of.ensures c.args.text.now c.requires.2.first),
      c.in_ok-parameters.was,
      ← (c.operand_of-2.ensures c.args.text.now c.requires.2.second),
      c.in_ok-covariates.was,
    )
    c.covariate_with.ensures
