-- `resolve_terms::put_terms` meets its contract. The invariant: what is left to be written are the terms of the parameters that are left.
-- Assumes nothing.
use Prim.Native.Nat.{ℕ, ◌+◌, ◌*◌, ◌<◌}
use mathlib.Core.Path.{◌≡◌, refl}
use mathlib.Core.List.{List, ◌++◌}
use native.Mathlib.Omega.{arith}
use lib.ListN.{get_or, drop}
use Rattle.read_forms.specs.Forms.{modes_in}
use Rattle.resolving.specs.Handed.{handed_context}
use Rattle.print_writing.proofs.Going.{going, told, further, no_more, room-first}
use Rattle.resolve_terms.specs.Terms.{covariate_terms, parameter_terms}
use Rattle.resolve_terms.proofs.Steps.{gather-next, gather_none}
use Rattle.resolve_terms.proofs.put_terms.Goals.{In-loop-parameter}
use Rattle.resolve_terms.proofs.put_terms.Goals as goal

pub loop-parameter-init : goal.loop-parameter-init
loop-parameter-init c = going _ _ _

-- the index is below 64
small : (c : In-loop-parameter) →
    get_or c.args.parameters.now c.loop-parameter.parameter-index 0 < 64
small c =
    c.requires.1.below c.loop-parameter.parameter-index c.loop-parameter-test.true

pub overflow_mul-own : goal.overflow_mul-own
overflow_mul-own c = omega (arith, small (goal.at.overflow_mul-own c).In-loop-parameter)

pub overflow_add-own : goal.overflow_add-own
overflow_add-own c = omega (arith, small (goal.at.overflow_add-own c).In-loop-parameter, c.requires.3)

-- the terms of the parameters from an index on, and those of the parameter at the index
abbrev left_from : (t : In-loop-parameter) → ℕ → List ℕ
left_from t i =
    parameter_terms (handed_context t.args.block.now t.args.lists.now) (modes_in t.args.effects) t.args.head
    (drop i t.args.parameters.now) t.args.covariates.now

abbrev own_terms : (t : In-loop-parameter) → List ℕ
own_terms t =
    covariate_terms (handed_context t.args.block.now t.args.lists.now) (modes_in t.args.effects)
    (t.args.head + 2048 * get_or t.args.parameters.now t.loop-parameter.parameter-index 0) t.args.covariates.now

ahead : (t : In-loop-parameter) → left_from t t.loop-parameter.parameter-index ≡ own_terms t ++ left_from t (t.loop-parameter.parameter-index + 1)
ahead t =
    gather-next t.args.parameters.now t.loop-parameter.parameter-index t.loop-parameter-test.true _ _ refl

pub put_covariates-next-requires : goal.put_covariates-next-requires
put_covariates-next-requires c =
    (c.requires.0, c.requires.2, omega (arith, small (goal.at.put_covariates-next-requires c).In-loop-parameter, c.requires.3), room-first (own_terms (goal.at.put_covariates-next-requires c).In-loop-parameter) (left_from (goal.at.put_covariates-next-requires c).In-loop-parameter (c.loop-parameter.parameter-index + 1)) c.requires.4 (told (ahead (goal.at.put_covariates-next-requires c).In-loop-parameter) c.loop-parameter.invariant))

pub loop-parameter-preserved : goal.loop-parameter-preserved
loop-parameter-preserved c =
    further {bs = own_terms (goal.at.loop-parameter-preserved c).In-loop-parameter} (told (ahead (goal.at.loop-parameter-preserved c).In-loop-parameter) c.loop-parameter.invariant) c.put_covariates-next.ensures

pub returns : goal.returns
returns c =
    no_more
    (told (gather_none _ c.args.parameters.now c.loop-parameter.parameter-index (omega (arith, c.loop-parameter-test.false))) c.loop-parameter.invariant)
