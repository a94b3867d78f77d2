-- `resolve_features::head_of` meets its contract: its number is small.
-- Assumes nothing.
use native.Mathlib.Omega.{arith}
use Rattle.read_forms.specs.Forms.{op_as}
use Rattle.resolve_features.proofs.Covariates.{mark-small, sign_small}
use Rattle.resolve_features.proofs.head_of.Goals as goal

pub overflow_mul-result-2 : goal.overflow_mul-result-2
overflow_mul-result-2 c = omega (arith, c.mark_of.ensures, mark-small c.args.explicit)

pub overflow_add-result : goal.overflow_add-result
overflow_add-result c = omega (arith, c.requires, c.mark_of.ensures, mark-small c.args.explicit)

pub overflow_mul-result-3 : goal.overflow_mul-result-3
overflow_mul-result-3 c = omega (arith, c.sign_of.ensures, sign_small (op_as c.args.op))

pub overflow_add-result-2 : goal.overflow_add-result-2
overflow_add-result-2 c =
    omega (
      arith,
      c.requires,
      c.mark_of.ensures,
      mark-small c.args.explicit,
      c.sign_of.ensures,
      sign_small (op_as c.args.op),
    )

pub overflow_add-result-3 : goal.overflow_add-result-3
overflow_add-result-3 c =
    omega (
      arith,
      c.requires,
      c.mark_of.ensures,
      mark-small c.args.explicit,
      c.sign_of.ensures,
      sign_small (op_as c.args.op),
      c.mark_of-2.ensures,
      mark-small c.args.optional,
    )
