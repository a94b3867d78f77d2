-- What the loop keeps.
use Prim.Native.Nat.{ℕ, ◌<◌}
use mathlib.Core.Path.{◌≡◌}
use Rattle.resolve_merging_few.specs.Listing.{group_in}
use Rattle.resolve_merging_few.proofs.group_index.Given as goal

abbrev pub invariant-loop-j : goal.invariant-loop-j
invariant-loop-j l = (m : ℕ) → m < l.j → group_in l.listed m ≡ l.g → ⊥
