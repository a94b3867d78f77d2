-- What the loop keeps.
use Prim.Native.Nat.{◌-◌}
use Rattle.read_forms.specs.Items.{tokens_from}
use Rattle.print_parts.proofs.Entries.{entries_of, Left}
use Rattle.print_parts.proofs.put_entries.Given as goal

abbrev pub invariant-loop-i : goal.invariant-loop-i
invariant-loop-i g l =
    let e = g.E.Entry.shape in
    Left e l.text l.initial.out l.at (entries_of e l.items.count (tokens_from l.text l.items.first.at)) l.out l.next (l.items.count - l.i) l.cur.at
