-- `resolve_context::in_order` meets its contract: in each turn, the whole list is in order if what is left of it is, from the end of the entry
-- before it on. Assumes nothing.
use mathlib.Core.Path.{◌≡◌, sym, ◌∙◌, ap₂}
use mathlib.Core.Bool.{◌&&◌, and-false}
use Prim.Native.Nat.{ℕ, ◌+◌, ◌*◌, ◌-◌, ◌<◌}
use native.Mathlib.Omega.{arith}
use native.Mathlib.Nat.{mul-suc}
use borrow.Author.Tests.{le-leb, lt-leb}
use lib.Dec.{leb}
use lib.ListN.{length, get_or}
use Rattle.std.proofs.Math.Nat.{mul-le-mul_left}
use Rattle.resolving.specs.Given.{in_order, is_entry}
use Rattle.resolving.specs.Handed.{pair_at, pairs_at}
use Rattle.resolve_context.proofs.Pairs.{order-more, pairs_none}
use Rattle.resolve_context.proofs.in_order.Goals.{Else-not-is_entry, In-loop-i}
use Rattle.resolve_context.proofs.in_order.Goals as goal

-- in a turn: the entry lies in the run
room : (c : In-loop-i)
    → let n = c.args.names in
    n.start + n.step * c.loop-i.i + 1 < length c.args.lists.now
room c =
    let n = c.args.names in
    let m = mul-le-mul_left n.step c.loop-i-test.true in
    omega (arith, m, mul-suc n.step c.loop-i.i, c.requires.1.wide, c.requires.1.within)

-- in a turn: the list is in order if this entry is and the others are
turned : (c : In-loop-i)
    → let n = c.args.names in
    let i = c.loop-i.i in
    let at = n.start + n.step * i in
    let b = c.args.block.now in
    let r = c.args.lists.now in
    in_order b 0 (pairs_at r n.start n.step n.count)
    ≡ (is_entry b (pair_at r at)
    && (leb c.loop-i.end (get_or r at 0)
    && in_order b (get_or r at 0 + get_or r (at + 1) 0) (pairs_at r (n.start + n.step * (i + 1)) n.step (n.count - (i + 1)))))
turned c =
    let n = c.args.names in
    let i = c.loop-i.i in
    let at = n.start + n.step * i in
    let b = c.args.block.now in
    let r = c.args.lists.now in
    let next : at + n.step ≡ n.start + n.step * (i + 1) = omega (arith, mul-suc n.step i) in
    let less : n.count - i - 1 ≡ n.count - (i + 1) = omega arith in
    sym c.loop-i.invariant
    ∙ order-more b r at n.step (n.count - i) c.loop-i.end (omega (arith, c.loop-i-test.true))
    ∙ ap₂
    (λ (k m : ℕ). is_entry b (pair_at r at) && (leb c.loop-i.end (get_or r at 0) && in_order b (get_or r at 0 + get_or r (at + 1) 0) (pairs_at r k n.step m)))
    next less

pub returns-then-not-is_entry : goal.returns-then-not-is_entry
returns-then-not-is_entry c =
    sym (turned (goal.at.returns-then-not-is_entry c).In-loop-i ∙ simp (sym c.is_entry.ensures ∙ c.if-not-is_entry.true))

pub returns-then-offset-end : goal.returns-then-offset-end
returns-then-offset-end c =
    sym (turned (goal.at.returns-then-offset-end c).In-loop-i ∙ simp (lt-leb _ _ c.if-offset-end.true, and-false))

pub loop-i-preserved : goal.loop-i-preserved
loop-i-preserved c =
    let is = sym c.is_entry.ensures ∙ c.if-not-is_entry.false in
    sym (turned (goal.at.loop-i-preserved c).In-loop-i ∙ simp (is, le-leb _ _ c.if-offset-end.false))

pub returns : goal.returns
returns c =
    let n = c.args.names in
    sym (sym c.loop-i.invariant ∙ rw (pairs_none c.args.lists.now (n.start + n.step * c.loop-i.i) n.step (n.count - c.loop-i.i) (omega (arith, c.loop-i-test.false))))
