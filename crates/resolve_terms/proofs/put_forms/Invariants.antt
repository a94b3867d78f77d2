-- What the loop keeps, and what it counts down.
use Prim.Native.Nat.{◌<◌}
use Rattle.read_packs.specs.Packs.{places}
use Rattle.print_writing.proofs.Going.{Going}
use Rattle.resolve_terms.specs.Terms.{form_terms}
use Rattle.resolve_terms.proofs.put_forms.Given as goal

abbrev pub invariant-loop-left : goal.invariant-loop-left
invariant-loop-left l = (l.left < 4294967296) × Going l.initial.terms l.at (form_terms l.head (places l.packed)) l.terms l.next (form_terms l.head (places l.left))

abbrev pub decreases-loop-left : goal.decreases-loop-left
decreases-loop-left l = l.left
