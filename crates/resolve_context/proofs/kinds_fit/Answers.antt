-- `resolve_context::kinds_fit` meets its contract. The invariant: each kind fits if each of those not yet looked at does. Assumes nothing.
use mathlib.Core.Path.{◌≡◌, sym, ◌∙◌, ap, ap₂}
use mathlib.Core.Bool.{◌&&◌}
use mathlib.Core.List.{List}
use Prim.Native.Nat.{ℕ, ◌+◌, ◌*◌, ◌-◌, ◌<◌}
use native.Mathlib.Omega.{arith}
use borrow.Author.Tests.{le-leb, lt-leb}
use lib.Dec.{leb}
use lib.ListN.{get_or}
use Rattle.text.specs.Bytes.{every}
use Rattle.resolve_context.specs.Lists.{kinds_in}
use Rattle.resolve_context.proofs.Pairs.{kinds_at, kinds-more, kinds-none}
use Rattle.resolve_context.proofs.kinds_fit.Goals as goal

-- one kind looked at, and the others
one : (l : List ℕ) (start n i : ℕ) → i < n
    → every (λ k. leb k 1) (kinds_at l (start + 3 * i) (n - i))
    ≡ leb (get_or l (start + 3 * i + 2) 0) 1 && every (λ k. leb k 1) (kinds_at l (start + 3 * (i + 1)) (n - (i + 1)))
one l start n i h =
    let at : start + 3 * i + 3 ≡ start + 3 * (i + 1) = omega arith in
    let less : n - i - 1 ≡ n - (i + 1) = omega arith in
    ap (every (λ k. leb k 1)) (kinds-more l (start + 3 * i) (n - i) (omega arith))
    ∙ ap₂ (λ (a m : ℕ). leb (get_or l (start + 3 * i + 2) 0) 1 && every (λ k. leb k 1) (kinds_at l a m)) at less

pub returns-then-lists-names-gt1 : goal.returns-then-lists-names-gt1
unfolding kinds_in
returns-then-lists-names-gt1 c =
    let n = c.args.names in
    sym (sym c.loop-i.invariant ∙ rw (one c.args.lists.now n.start n.count c.loop-i.i c.loop-i-test.true, lt-leb _ 1 c.if-lists-names-gt1.true))

pub loop-i-preserved : goal.loop-i-preserved
loop-i-preserved c =
    let n = c.args.names in
    sym (sym c.loop-i.invariant ∙ rw (one c.args.lists.now n.start n.count c.loop-i.i c.loop-i-test.true, le-leb _ 1 c.if-lists-names-gt1.false))

pub returns : goal.returns
unfolding kinds_in
returns c =
    let n = c.args.names in
    sym (sym c.loop-i.invariant ∙ rw (kinds-none c.args.lists.now (n.start + 3 * c.loop-i.i) (n.count - c.loop-i.i) (omega (arith, c.loop-i-test.false))))
