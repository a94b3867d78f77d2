-- `resolve_context::lists_stand` meets its contract, list by list. Assumes nothing.
use mathlib.Core.Path.{◌≡◌, refl, sym, ap, ◌∙◌, subst}
use mathlib.Core.Bool.{Bool, true, false, ◌&&◌}
use mathlib.Core.List.{List}
use Prim.Native.Nat.{ℕ, ◌+◌, ◌*◌, ◌≤◌}
use lib.ListN.{length}
use Rattle.resolve_context.specs.declared.Names.{Names}
use Rattle.resolve_context.specs.declared.Layout.{Layout}
use Rattle.resolve_context.specs.Lists.{layout_of, order_of, both_of, kinds_fit, lists_fit, InRun}
use Rattle.resolve_context.proofs.Heads.{heads_of, parameters_in, iiv_in, both_in, declared_in, columns_in}
use Rattle.resolve_context.proofs.lists_stand.Goals.{Joined-in_order, then-in_order, else-in_order, Joined-in_order-2, then-in_order-2, else-in_order-2, Joined-in_order-3, then-in_order-3, else-in_order-3, Joined-in_order-4, then-in_order-4, else-in_order-4}
use Rattle.resolve_context.proofs.lists_stand.Goals as goal

-- a list of the layout that is handed over is that of the run
module _ (l : List ℕ) {layout : Layout} (is : layout ≡ layout_of l) where
  in_run : (list : Layout → Names) → InRun l (list (layout_of l)) → InRun l (list layout)
  in_run list h = subst (λ (y : Layout). InRun l (list y)) (sym is) h

  all_told : (b : List ℕ)
      → ((((order_of b l layout.parameters && order_of b l layout.iiv) && order_of b l (both_of layout.template)) && order_of b l layout.declared)
      && order_of b l layout.columns) && kinds_fit l layout.declared
      ≡ lists_fit b l
  unfolding lists_fit
  all_told b =
      chain (order_of b l layout.parameters) (order_of b l layout.iiv) (order_of b l (both_of layout.template)) (order_of b l layout.declared)
      (order_of b l layout.columns) (kinds_fit l layout.declared)
      ∙ ap
      (λ (y : Layout).
      (order_of b l y.parameters && (order_of b l y.iiv && (order_of b l (both_of y.template) && (order_of b l y.declared && (order_of b l y.columns && true)))))
      && kinds_fit l y.declared)
      is
    where
      chain : (p i t d c k : Bool) → ((((p && i) && t) && d) && c) && k ≡ (p && (i && (t && (d && (c && true))))) && k
      chain true true true true true k = refl
      chain true true true true false k = refl
      chain true true true false c k = refl
      chain true true false d c k = refl
      chain true false t d c k = refl
      chain false i t d c k = refl

pub in_order-requires : goal.in_order-requires
in_order-requires c = (c.requires.0, in_run c.args.lists.now c.requires.1 (λ y. y.parameters) (parameters_in _ c.requires.3))

pub in_order-requires-then-in_order : goal.in_order-requires-then-in_order
in_order-requires-then-in_order c = (c.requires.0, in_run c.args.lists.now c.requires.1 (λ y. y.iiv) (iiv_in _ c.requires.3))

pub both_of-requires : goal.both_of-requires
unfolding layout_of
both_of-requires c =
    subst (λ (y : Layout). y.template.count ≤ 64) (sym c.requires.1) (heads_of c.args.lists.now c.requires.2).template

pub in_order-requires-then-in_order-2 : goal.in_order-requires-then-in_order-2
in_order-requires-then-in_order-2 c =
    (c.requires.0, subst (InRun c.args.lists.now) (sym c.both_of.ensures) (in_run c.args.lists.now c.requires.1 (λ y. both_of y.template) (both_in _ c.requires.3)))

pub in_order-requires-then-in_order-3 : goal.in_order-requires-then-in_order-3
in_order-requires-then-in_order-3 c = (c.requires.0, in_run c.args.lists.now c.requires.1 (λ y. y.declared) (declared_in _ c.requires.3))

pub in_order-requires-then-in_order-4 : goal.in_order-requires-then-in_order-4
in_order-requires-then-in_order-4 c = (c.requires.0, in_run c.args.lists.now c.requires.1 (λ y. y.columns) (columns_in _ c.requires.3))

pub kinds_fit-requires : goal.kinds_fit-requires
unfolding layout_of
kinds_fit-requires c =
    let l = c.args.lists.now in
    subst (λ (y : Layout). y.declared.start + 3 * y.declared.count ≤ length l) (sym c.requires.1) (declared_in l c.requires.3).within

-- how far the lists are in order

two : (c : Joined-in_order)
    → let o = order_of c.args.block.now c.args.lists.now in
    let y = c.args.layout in
    c.if-in_order.value ≡ o y.parameters && o y.iiv
two c =
    let o = order_of c.args.block.now c.args.lists.now in
    let r = o c.args.layout.iiv in
    elim c.if-in_order.branch [
      | then-in_order w ↦ w.value-is ∙ w.in_order-then-in_order.ensures ∙ ap (λ (t : Bool). t && r) (sym w.if-in_order.true ∙ c.in_order.ensures)
      | else-in_order w ↦ w.value-is ∙ w.if-in_order.false ∙ ap (λ (t : Bool). t && r) (sym w.if-in_order.false ∙ c.in_order.ensures)
    ]

three : (c : Joined-in_order-2)
    → let o = order_of c.args.block.now c.args.lists.now in
    let y = c.args.layout in
    c.if-in_order-2.value ≡ (o y.parameters && o y.iiv) && o (both_of y.template)
three c =
    let o = order_of c.args.block.now c.args.lists.now in
    let r = o (both_of c.args.layout.template) in
    let e = two (goal.at.Joined-in_order-2 c).Joined-in_order in
    elim c.if-in_order-2.branch [
      | then-in_order-2 w ↦
          w.value-is ∙ w.in_order-then-in_order-2.ensures ∙ ap o w.both_of.ensures ∙ ap (λ (t : Bool). t && r) (sym w.if-in_order-2.true ∙ e)
      | else-in_order-2 w ↦ w.value-is ∙ w.if-in_order-2.false ∙ ap (λ (t : Bool). t && r) (sym w.if-in_order-2.false ∙ e)
    ]

four : (c : Joined-in_order-3)
    → let o = order_of c.args.block.now c.args.lists.now in
    let y = c.args.layout in
    c.if-in_order-3.value ≡ ((o y.parameters && o y.iiv) && o (both_of y.template)) && o y.declared
four c =
    let o = order_of c.args.block.now c.args.lists.now in
    let r = o c.args.layout.declared in
    let e = three (goal.at.Joined-in_order-3 c).Joined-in_order-2 in
    elim c.if-in_order-3.branch [
      | then-in_order-3 w ↦ w.value-is ∙ w.in_order-then-in_order-3.ensures ∙ ap (λ (t : Bool). t && r) (sym w.if-in_order-3.true ∙ e)
      | else-in_order-3 w ↦ w.value-is ∙ w.if-in_order-3.false ∙ ap (λ (t : Bool). t && r) (sym w.if-in_order-3.false ∙ e)
    ]

five : (c : Joined-in_order-4)
    → let o = order_of c.args.block.now c.args.lists.now in
    let y = c.args.layout in
    c.if-in_order-4.value ≡ (((o y.parameters && o y.iiv) && o (both_of y.template)) && o y.declared) && o y.columns
five c =
    let o = order_of c.args.block.now c.args.lists.now in
    let r = o c.args.layout.columns in
    let e = four (goal.at.Joined-in_order-4 c).Joined-in_order-3 in
    elim c.if-in_order-4.branch [
      | then-in_order-4 w ↦ w.value-is ∙ w.in_order-then-in_order-4.ensures ∙ ap (λ (t : Bool). t && r) (sym w.if-in_order-4.true ∙ e)
      | else-in_order-4 w ↦ w.value-is ∙ w.if-in_order-4.false ∙ ap (λ (t : Bool). t && r) (sym w.if-in_order-4.false ∙ e)
    ]

pub returns-then-in_order-5 : goal.returns-then-in_order-5
returns-then-in_order-5 c =
    let a = c.args in
    let r = kinds_fit a.lists.now a.layout.declared in
    c.kinds_fit.ensures
    ∙ ap (λ (t : Bool). t && r) (sym c.if-in_order-5.true ∙ five (goal.at.returns-then-in_order-5 c).Joined-in_order-4)
    ∙ all_told a.lists.now c.requires.1 a.block.now

pub returns-else-in_order-5 : goal.returns-else-in_order-5
returns-else-in_order-5 c =
    let a = c.args in
    let r = kinds_fit a.lists.now a.layout.declared in
    c.if-in_order-5.false
    ∙ ap (λ (t : Bool). t && r) (sym c.if-in_order-5.false ∙ five (goal.at.returns-else-in_order-5 c).Joined-in_order-4)
    ∙ all_told a.lists.now c.requires.1 a.block.now
