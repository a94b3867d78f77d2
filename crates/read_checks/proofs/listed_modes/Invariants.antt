-- What the loop keeps.
use Prim.Native.Nat.{◌-◌}
use Rattle.read_checks.proofs.Modes.{Sofar}
use Rattle.read_checks.proofs.listed_modes.Given as goal

abbrev pub invariant-loop-done : goal.invariant-loop-done
invariant-loop-done l = Sofar l.family l.text l._done-end l.initial.cur.at (l._done-end - l._done) l.cur.at l.packed
