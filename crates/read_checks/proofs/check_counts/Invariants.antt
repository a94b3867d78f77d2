-- What the loop keeps.
use Prim.Native.Nat.{◌-◌}
use Rattle.reading.specs.Argument.{count_list}
use Rattle.read_forms.specs.Forms.{values_in}
use Rattle.read_checks.proofs.Judging.{Left}
use Rattle.read_checks.proofs.check_counts.Given as goal

abbrev pub invariant-loop-done : goal.invariant-loop-done
invariant-loop-done l = Left (count_list l.limit l.bracket) values_in l.text l._done-end l.initial.cur.at (l._done-end - l._done) l.cur.at
