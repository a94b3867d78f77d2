-- What the loop keeps, and what it counts down.
use Prim.Native.Nat.{◌-◌}
use mathlib.Core.Path.{◌≡◌}
use lib.ListN.{length}
use Rattle.tokens.specs.Lex.{tokens}
use Rattle.tokens.specs.Next.{scanned}
use Rattle.tokens.proofs.Steps.{from}
use Rattle.tokens.proofs.scan.Given as goal

abbrev pub invariant-loop-at : goal.invariant-loop-at
invariant-loop-at l = scanned (from l.text l.at) ≡ scanned (tokens l.text)

abbrev pub decreases-loop-at : goal.decreases-loop-at
decreases-loop-at l = length l.text - l.at
