-- `resolve_grounding::put_either` meets its contract.
-- Assumes nothing.
use Prim.Native.Nat.{ℕ}
use mathlib.Core.Path.{ap}
use mathlib.Core.Bool.{Bool}
use mathlib.Core.List.{List}
use Rattle.read_forms.specs.Forms.{modes_in}
use Rattle.resolve_context.specs.Lists.{names_in}
use Rattle.print_writing.proofs.Writing.{room-same}
use Rattle.resolve_grounding.specs.Listed.{either_bytes}
use Rattle.resolve_grounding.proofs.put_either.Goals.{Start}
use Rattle.resolve_grounding.proofs.put_either.Goals as goal

abbrev asked : (s : Start) → Bool → List ℕ
asked s t =
    either_bytes (names_in s.args.block.now s.args.lists.now s.args.names) s.args.list.now s.args.family
    (modes_in s.args.modes) t

pub put_listed-requires : goal.put_listed-requires
put_listed-requires c =
    (c.requires.1, c.requires.2, room-same c.args.at (ap (asked (goal.at.put_listed-requires c).Start) c.if-named.true) c.requires.3)

pub returns-then-named : goal.returns-then-named
returns-then-named c =
    rw c.if-named.true c.put_listed.ensures

pub put_modes-requires : goal.put_modes-requires
put_modes-requires c =
    (c.requires.0, room-same c.args.at (ap (asked (goal.at.put_modes-requires c).Start) c.if-named.false) c.requires.3)

pub returns : goal.returns
returns c =
    rw c.if-named.false c.put_modes.ensures
