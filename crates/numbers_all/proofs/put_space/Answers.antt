-- `numbers_all::put_space` meets its contract. The invariant: the numbers of the statements so far are written, and those of the others are left;
-- each turn writes one statement's.
-- Assumes nothing.
use Prim.Native.Nat.{◌≤◌, ◌<◌}
use native.Mathlib.Omega.{arith}
use lib.ListN.{length}
use Rattle.read_space.specs.declared.Form.{Form}
use Rattle.print_writing.proofs.Going.{as_long}
use Rattle.numbers_all.proofs.Putting.{Putting, none-put, this-fits, this-ready, one-put, all-put}
use Rattle.numbers_all.proofs.put_space.Goals.{At-loop-i, In-loop-i, Start}
use Rattle.numbers_all.proofs.put_space.Goals as goal

-- the array has room for all of them, and there are at most 256
all_held : (s : Start) → s.args.space.count ≤ length s.args.space.forms
all_held s = omega (arith, s.requires.1.few, s.requires.1.wide)

index_below : (t : In-loop-i) → t.loop-i.i < 256
index_below t = omega (arith, t.loop-i-test.true, t.requires.1.few)

-- what is known before each turn
known : (l : At-loop-i)
    → Putting (λ (f : Form). f.statement) l.requires.2.limit l.args.text.now l.args.out.now l.loop-i.out l.args.space.forms
    l.args.space.count l.loop-i.i l.loop-i.at
known l =
    l.loop-i.invariant l.requires.2.limit l.requires.2.read

pub loop-i-init : goal.loop-i-init
loop-i-init c limit e = none-put (λ (f : Form). f.statement) limit _ _ _ _ e (all_held (goal.at.loop-i-init c).Start)

pub offset_bounds-space-i : goal.offset_bounds-space-i
offset_bounds-space-i c = omega (arith, index_below (goal.at.offset_bounds-space-i c).In-loop-i)

pub bounds-space-i : goal.bounds-space-i
bounds-space-i c = index_below (goal.at.bounds-space-i c).In-loop-i

pub put_counted-at-requires : goal.put_counted-at-requires
put_counted-at-requires c =
    let g = known (goal.at.put_counted-at-requires c).At-loop-i in
    let h = c.loop-i-test.true in
    (c.requires.0, this-fits (λ (f : Form). f.statement) g _ h, this-ready (λ (f : Form). f.statement) g _ h)

pub loop-i-preserved : goal.loop-i-preserved
loop-i-preserved c limit e =
    one-put (λ (f : Form). f.statement) (c.loop-i.invariant limit e) _ c.loop-i-test.true c.put_counted-at.ensures

pub shape_of-out : goal.shape_of-out
shape_of-out c = as_long (known (goal.at.shape_of-out c).At-loop-i).gone

pub returns : goal.returns
returns c = all-put (λ (f : Form). f.statement) (known (goal.at.returns c).At-loop-i) c.loop-i-test.false
