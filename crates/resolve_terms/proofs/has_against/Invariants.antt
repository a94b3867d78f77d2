-- What the loop keeps, and what it counts down.
use Prim.Native.Nat.{◌<◌}
use mathlib.Core.Path.{◌≡◌}
use mathlib.Core.Bool.{not}
use Rattle.read_packs.specs.Packs.{places}
use Rattle.text.specs.Lists.{any}
use Rattle.resolving.specs.Effects.{suits}
use Rattle.resolve_terms.specs.Terms.{kind_in}
use Rattle.resolve_terms.proofs.has_against.Given as goal

abbrev pub invariant-loop-left : goal.invariant-loop-left
invariant-loop-left l = (l.left < 4294967296) × (any (λ f. not (suits (kind_in l.kind) f)) (places l.packed) ≡ any (λ f. not (suits (kind_in l.kind) f)) (places l.left))

abbrev pub decreases-loop-left : goal.decreases-loop-left
decreases-loop-left l = l.left
