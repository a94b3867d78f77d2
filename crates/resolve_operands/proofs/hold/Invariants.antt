-- What the loop keeps.
use Rattle.resolve_context.specs.Lists.{names_in}
use Rattle.resolve_operands.specs.Named.{names_at, EntryAt}
use Rattle.resolve_operands.proofs.Bringing.{HeldSoFar}
use Rattle.resolve_operands.proofs.hold.Given as goal

abbrev pub invariant-loop-i : goal.invariant-loop-i
invariant-loop-i l = HeldSoFar (names_in l.block l.lists l.target) (names_at l.text l.block l.lists l.layout l.source) l.indexes l.n l.i × EntryAt l.text l.source l.i l.cur.at
