-- What the loop keeps.
use mathlib.Core.Path.{◌≡◌}
use mathlib.Core.Bool.{Bool}
use mathlib.Core.List.{List}
use Prim.Native.Nat.{ℕ}
use Rattle.resolve_context.specs.Lists.{names_in}
use Rattle.resolve_context.proofs.Places.{Passed}
use Rattle.resolve_context.proofs.first.Given as goal

abbrev pub invariant-loop-i : goal.invariant-loop-i
invariant-loop-i g l =
    (p : List ℕ → Bool) → ((w : _) (b : Bool) → goal.F-post g l.test w b → b ≡ p w.now) → Passed p (names_in l.block l.lists l.names) l.i
