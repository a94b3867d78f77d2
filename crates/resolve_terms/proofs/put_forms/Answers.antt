-- `resolve_terms::put_forms` meets its contract. The invariant: what is left to be written are the terms of the forms that are left.
-- Assumes nothing.
use mathlib.Core.Path.{◌≡◌, ap}
use mathlib.Core.List.{[], ◌∷◌}
use native.Mathlib.Omega.{arith}
use borrow.Author.Rules.{rules}
use Prim.Native.Nat.{◌+◌, ◌*◌, ◌-◌, ◌/◌, ◌%◌}
use Rattle.read_packs.specs.Packs.{places}
use Rattle.read_packs.proofs.Packed.{no_place, next_place}
use Rattle.print_writing.proofs.Going.{going, told, further, no_more, as_long, room-first}
use Rattle.resolve_terms.specs.Terms.{form_terms}
use Rattle.resolve_terms.proofs.put_forms.Goals.{In-loop-left}
use Rattle.resolve_terms.proofs.put_forms.Goals as goal

pub loop-left-init : goal.loop-left-init
loop-left-init c = (search rules, going _ _ _)

pub overflow_sub-left : goal.overflow_sub-left
overflow_sub-left c = omega (arith, c.loop-left-test.true)

pub overflow_mul-left : goal.overflow_mul-left
overflow_mul-left c = omega (arith, c.loop-left-test.true)

pub overflow_add-head : goal.overflow_add-head
overflow_add-head c = omega (arith, c.loop-left-test.true, c.requires.0)

-- the first of the terms that are left, and the others
first :
    (c : In-loop-left)
    → let a = c.args in
    form_terms a.head (places c.loop-left.left)
    ≡ (a.head + 4 * (c.loop-left.left % 16 - 1)) ∷ form_terms a.head (places (c.loop-left.left / 16))
first c =
    ap (form_terms c.args.head) (next_place c.loop-left.left c.loop-left.invariant.0 c.loop-left-test.true)

pub put_term-next-requires : goal.put_term-next-requires
put_term-next-requires c =
    room-first ((c.args.head + 4 * (c.loop-left.left % 16 - 1)) ∷ []) (form_terms c.args.head (places (c.loop-left.left / 16))) c.requires.1
    (told (first (goal.at.put_term-next-requires c).In-loop-left) c.loop-left.invariant.1)

pub loop-left-smaller : goal.loop-left-smaller
loop-left-smaller c = omega (arith, c.loop-left-test.true)

pub loop-left-preserved : goal.loop-left-preserved
loop-left-preserved c =
    (omega (arith, c.loop-left.invariant.0), further (told (first (goal.at.loop-left-preserved c).In-loop-left) c.loop-left.invariant.1) c.put_term-next.ensures)

pub shape_of-terms : goal.shape_of-terms
shape_of-terms c = as_long c.loop-left.invariant.1

pub returns : goal.returns
returns c =
    no_more (told (ap (form_terms c.args.head) (no_place c.loop-left.left c.loop-left-test.false)) c.loop-left.invariant.1)
