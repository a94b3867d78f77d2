-- `print_parts::put_entries` meets its contract. The invariant: what is left to be written are the entries that are left.
-- Assumes nothing.
use mathlib.Core.Path.{◌≡◌}
use Prim.Native.Nat.{◌-◌, ◌<◌, ◌+◌}
use native.Mathlib.Omega.{arith}
use Rattle.read_forms.specs.Items.{tokens_from}
use Rattle.read_forms.proofs.Entries.{first-listed}
use Rattle.print_writing.specs.Written.{Room}
use Rattle.print_writing.proofs.Writing.{room-same}
use Rattle.print_writing.proofs.Going.{going, as_long}
use Rattle.print_parts.proofs.Entries.{entries_of, all-entries, none_left, entry-room, comma-room, entry-put}
use Rattle.print_parts.proofs.put_entries.Goals.{At-loop-i, In-loop-i}
use Rattle.print_parts.proofs.put_entries.Goals as goal

-- room for the list is room for its entries
room :
    (g : _) (c : At-loop-i g)
    → (let a = c.args in
    Room a.at (entries_of g.E.Entry.shape a.items.count (tokens_from a.text.now a.items.first.at)))
room g c =
    room-same c.args.at (all-entries g.E.Entry.shape c.args.text.now c.args.items c.requires.1) c.requires.2

-- in the loop an entry is left
more : (g : _) (c : In-loop-i g) → 0 < c.args.items.count - c.loop-i.i
more g c = omega (arith, c.loop-i-test.true)

pub loop-i-init : goal.loop-i-init
loop-i-init g c =
    let e : c.args.items.count - 0 ≡ c.args.items.count = omega arith in
    rw e (record { entered = c.requires.1.are; under_way = going _ _ _ })

pub entry_at-here-requires : goal.entry_at-here-requires
entry_at-here-requires g c =
    (c.requires.0, first-listed 1 _ _ c.loop-i.invariant.entered (more g c))

pub put-next-requires : goal.put-next-requires
put-next-requires g c =
    let h = goal.at.put-next-requires g c in
    (c.entry_at-here.ensures.inside, entry-room c.loop-i.invariant (more g h.In-loop-i) c.entry_at-here.ensures (room g h.At-loop-i))

pub put_comma-next-requires : goal.put_comma-next-requires
put_comma-next-requires g c =
    let h = goal.at.put_comma-next-requires g c in
    comma-room c.loop-i.invariant (more g h.In-loop-i) c.entry_at-here.ensures c.put-next.ensures (room g h.At-loop-i)

pub loop-i-preserved : goal.loop-i-preserved
loop-i-preserved g c =
    let k : c.args.items.count - (c.loop-i.i + 1) ≡ c.args.items.count - c.loop-i.i - 1 = omega arith in
    rw (k, c.after_entry-cur.ensures)
    (entry-put c.loop-i.invariant (more g (goal.at.loop-i-preserved g c).In-loop-i) c.entry_at-here.ensures c.put-next.ensures
    c.put_comma-next.ensures)

pub shape_of-out : goal.shape_of-out
shape_of-out g c = as_long c.loop-i.invariant.under_way

pub returns : goal.returns
returns g c =
    rw (all-entries g.E.Entry.shape c.args.text.now c.args.items c.requires.1) (none_left c.loop-i.invariant (omega arith))
