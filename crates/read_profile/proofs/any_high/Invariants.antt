-- What the loop keeps.
use Prim.Native.Nat.{◌-◌}
use Rattle.read_profile.proofs.HighCounts.{Left}
use Rattle.read_profile.proofs.any_high.Given as goal

abbrev pub invariant-loop-done : goal.invariant-loop-done
invariant-loop-done l = Left l.text l._done-end l.initial.cur.at (l._done-end - l._done) l.cur.at
