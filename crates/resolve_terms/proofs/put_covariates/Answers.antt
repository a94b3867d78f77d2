-- `resolve_terms::put_covariates` meets its contract. The invariant: what is left to be written are the terms of the covariates that are left.
-- Assumes nothing.
use Prim.Native.Nat.{ℕ, ◌+◌, ◌*◌, ◌<◌}
use mathlib.Core.Path.{◌≡◌, refl}
use mathlib.Core.List.{List, ◌++◌}
use native.Mathlib.Omega.{arith}
use lib.ListN.{get_or, drop}
use Rattle.read_packs.specs.Packs.{places}
use Rattle.read_forms.specs.Forms.{modes_in}
use Rattle.resolving.specs.Effects.{forms_of}
use Rattle.resolving.specs.Context.{kind_at}
use Rattle.resolving.specs.Handed.{handed_context}
use Rattle.resolve_context.proofs.Meaning.{covariates_sound}
use Rattle.print_writing.proofs.Going.{going, told, further, no_more, room-first}
use Rattle.resolve_terms.specs.Terms.{form_terms, covariate_terms}
use Rattle.resolve_terms.proofs.Steps.{gather-next, gather_none}
use Rattle.resolve_terms.proofs.put_covariates.Goals.{After-forms_of-packed, In-loop-covariate}
use Rattle.resolve_terms.proofs.put_covariates.Goals as goal

pub kind_of-kind-requires : goal.kind_of-kind-requires
kind_of-kind-requires c =
    (c.requires.0, c.requires.1.below c.loop-covariate.covariate-index c.loop-covariate-test.true)

pub loop-covariate-init : goal.loop-covariate-init
loop-covariate-init c = going _ _ _

-- the index is below 64
small : (c : In-loop-covariate) →
    get_or c.args.covariates.now c.loop-covariate.covariate-index 0 < 64
small c =
    omega (
      arith,
      c.requires.1.below c.loop-covariate.covariate-index c.loop-covariate-test.true,
      (covariates_sound c.args.block.now c.args.lists.now c.args.layout c.requires.0).few,
    )

pub overflow_add-head : goal.overflow_add-head
overflow_add-head c =
    omega (arith, small (goal.at.overflow_add-head c).In-loop-covariate, c.requires.2)

-- the terms of the covariate at the index, as the code has them
own : (c : After-forms_of-packed) →
    let v = get_or c.args.covariates.now c.loop-covariate.covariate-index 0 in
    form_terms (c.args.head + 32 * v) (forms_of (modes_in c.args.effects) (kind_at (handed_context c.args.block.now c.args.lists.now) v))
    ≡ form_terms (c.args.head + 32 * v) (places c.forms_of-packed.result)
own c = rw (c.forms_of-packed.ensures, c.kind_of-kind.ensures) refl

-- the terms of the covariates from an index on, and those of the covariate at the index
abbrev left_from : (c : After-forms_of-packed) → ℕ → List ℕ
left_from c i =
    covariate_terms (handed_context c.args.block.now c.args.lists.now) (modes_in c.args.effects) c.args.head
    (drop i c.args.covariates.now)

abbrev own_terms : (c : After-forms_of-packed) → List ℕ
own_terms c =
    form_terms (c.args.head + 32 * get_or c.args.covariates.now c.loop-covariate.covariate-index 0) (places c.forms_of-packed.result)

ahead : (c : After-forms_of-packed) →
    let i = c.loop-covariate.covariate-index in
    left_from c i ≡ own_terms c ++ left_from c (i + 1)
ahead c =
    gather-next c.args.covariates.now c.loop-covariate.covariate-index c.loop-covariate-test.true _ _ (own c)

pub put_forms-next-requires : goal.put_forms-next-requires
put_forms-next-requires c =
    (omega (arith, small (goal.at.put_forms-next-requires c).In-loop-covariate, c.requires.2), room-first (own_terms (goal.at.put_forms-next-requires c).After-forms_of-packed) (left_from (goal.at.put_forms-next-requires c).After-forms_of-packed (c.loop-covariate.covariate-index + 1)) c.requires.3 (told (ahead (goal.at.put_forms-next-requires c).After-forms_of-packed) c.loop-covariate.invariant))

pub loop-covariate-preserved : goal.loop-covariate-preserved
loop-covariate-preserved c =
    further (told (ahead (goal.at.loop-covariate-preserved c).After-forms_of-packed) c.loop-covariate.invariant) c.put_forms-next.ensures

pub returns : goal.returns
returns c =
    no_more
    (told (gather_none _ c.args.covariates.now c.loop-covariate.covariate-index (omega (arith, c.loop-covariate-test.false))) c.loop-covariate.invariant)
