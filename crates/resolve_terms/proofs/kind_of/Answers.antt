-- `resolve_terms::kind_of` meets its contract.
-- Assumes nothing.
use Prim.Native.Nat.{ℕ, ◌<◌}
use mathlib.Core.Path.{◌≡◌, ◌∙◌, ap, sym, subst}
use mathlib.Core.Bool.{Bool, true, cond}
use mathlib.Core.Option.{Option, some}
use borrow.Author.Tests.{not-true, not-false}
use Rattle.resolving.specs.Context.{CovariateKind}
use Rattle.resolve_context.specs.declared.Layout.{Layout}
use Rattle.resolve_context.specs.Lists.{covariates_of}
use Rattle.resolve_context.proofs.Meaning.{kinds-within, kind-declared, kind_undeclared}
use Rattle.resolve_terms.proofs.kind_of.Goals as goal

pub returns-then-not-layout : goal.returns-then-not-layout
returns-then-not-layout c =
    sym (kind_undeclared c.args.block.now c.args.lists.now c.args.layout c.requires.0 c.args.index (not-true _ c.if-not-layout.true))

-- with a block, the list of covariates is that of the block
module _ (y : Layout) (i : ℕ) (e : y.declares ≡ true) where
  in_block : i < (covariates_of y).count → i < y.declared.count
  in_block h = subst (λ (t : Bool). i < (cond t y.declared y.columns).count) e h

pub kind_at-requires : goal.kind_at-requires
kind_at-requires c = (
  in_block c.args.layout c.args.index (not-false _ c.if-not-layout.false) c.requires.1,
  kinds-within c.args.block.now c.args.lists.now c.args.layout c.requires.0,
)

pub returns : goal.returns
returns c =
    ap {B = Option CovariateKind} some c.kind_at.ensures
    ∙ sym (kind-declared c.args.block.now c.args.lists.now c.args.layout c.requires.0 c.args.index (not-false _ c.if-not-layout.false)
    (in_block c.args.layout c.args.index (not-false _ c.if-not-layout.false) c.requires.1))
