-- `resolve_context::stands` meets its contract, by the tests in the order of the code. Assumes nothing.
use mathlib.Core.Path.{◌≡◌, sym, ap, ◌∙◌, subst}
use mathlib.Core.Bool.{true}
use Prim.Native.Nat.{◌+◌, ◌*◌, ◌≤◌}
use native.Mathlib.Omega.{arith}
use borrow.Author.Tests.{ne_eqb}
use Rattle.resolve_context.specs.declared.Layout.{Layout}
use Rattle.resolving.specs.Handed.{past_all}
use Rattle.resolve_context.specs.Lists.{heads_fit, layout_of}
use Rattle.resolve_context.proofs.Heads.{heads_of, block_long, heads_amiss, run_amiss, lists_decide}
use Rattle.resolve_context.proofs.stands.Goals.{
  After-past,
  Else-not-heads_fit,
  then-block-gt16384-via-then-block-gt16384,
  then-block-gt16384-via-else-block-gt16384+then-not-heads_fit,
}
use Rattle.resolve_context.proofs.stands.Goals as goal

-- the counts and marks are as they should be
heads : (c : Else-not-heads_fit) → heads_fit c.args.lists.now ≡ true
heads c = sym c.heads_fit.ensures ∙ c.if-not-heads_fit.false

-- how long the run should be
total : (c : After-past) → c.past.result ≡ past_all c.args.lists.now
unfolding layout_of
total c = c.past.ensures ∙ ap (λ (y : Layout). y.columns.start + 2 * y.columns.count) c.read_layout-layout.ensures

pub returns-then-block-gt16384 : goal.returns-then-block-gt16384
returns-then-block-gt16384 c =
    let a = c.args in
    elim c.then-block-gt16384.branch [
      | then-block-gt16384-via-then-block-gt16384 w ↦ sym (block_long a.block.now a.lists.now w.if-block-gt16384.true)
      | then-block-gt16384-via-else-block-gt16384+then-not-heads_fit w ↦
          sym (heads_amiss a.block.now a.lists.now (sym w.heads_fit.ensures ∙ w.if-not-heads_fit.true))
    ]

pub past-requires : goal.past-requires
unfolding layout_of
past-requires c =
    let l = c.args.lists.now in
    let h = heads_of l (heads (goal.at.past-requires c).Else-not-heads_fit) in
    subst (λ (y : Layout). (y.columns.count ≤ 64) × (y.columns.start ≤ 1000)) (sym c.read_layout-layout.ensures) (h.columns, omega (arith, h))

pub lists_stand-requires : goal.lists_stand-requires
lists_stand-requires c = (
  c.requires,
  c.read_layout-layout.ensures,
  heads (goal.at.lists_stand-requires c).Else-not-heads_fit,
  sym (total (goal.at.lists_stand-requires c).After-past) ∙ c.if-past-lists.true,
)

pub returns-then-past-lists : goal.returns-then-past-lists
returns-then-past-lists c =
    let a = c.args in
    c.lists_stand.ensures
    ∙ sym
    (lists_decide a.block.now a.lists.now c.if-block-gt16384.false (heads (goal.at.returns-then-past-lists c).Else-not-heads_fit)
    (sym (total (goal.at.returns-then-past-lists c).After-past) ∙ c.if-past-lists.true))

pub returns-else-past-lists : goal.returns-else-past-lists
returns-else-past-lists c =
    let a = c.args in
    ne_eqb _ _ c.if-past-lists.false
    ∙ sym (run_amiss a.block.now a.lists.now (λ e. c.if-past-lists.false (total (goal.at.returns-else-past-lists c).After-past ∙ e)))
