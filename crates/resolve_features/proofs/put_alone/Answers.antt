-- `resolve_features::put_alone` meets its contract: the keyword with its `(`, the modes made whole, and the `)`.
-- Assumes nothing.
use Prim.Native.Nat.{ℕ}
use mathlib.Core.Bool.{false}
use mathlib.Core.List.{List, [], ◌++◌}
use lib.ListN.{get_or}
use Rattle.text.specs.Bytes.{bytes}
use Rattle.tokens.specs.Spelling.{spell_all}
use Rattle.labels.specs.Label.{keywords}
use Rattle.canonical.specs.Canonical.{modes_shapes}
use Rattle.read_forms.specs.Forms.{modes_in}
use Rattle.resolving.specs.Brought.{whole}
use Rattle.print_statements.specs.Bytes.{head_of}
use Rattle.print_writing.proofs.Going.{going, further, finished, room-left, room-first}
use Rattle.resolve_features.proofs.put_alone.Goals.{Start}
use Rattle.resolve_features.proofs.put_alone.Goals as goal

abbrev modes : Start → List ℕ
modes s = spell_all (modes_shapes s.args.family (whole s.args.family (modes_in s.args.modes)))

pub put_head-inside-requires : goal.put_head-inside-requires
put_head-inside-requires c = (
  c.requires.1,
  c.requires.2,
  room-first (head_of (get_or keywords c.args.keyword []) false) (modes (goal.at.put_head-inside-requires c).Start ++ bytes ")") c.requires.3 (going c.args.out.now _ _),
)

pub put_modes-last-requires : goal.put_modes-last-requires
put_modes-last-requires c =
    rw c.whole_modes-whole.ensures (c.requires.0, room-first (modes (goal.at.put_modes-last-requires c).Start) (bytes ")") c.requires.3 (further (going _ _ _) c.put_head-inside.ensures))

pub put-requires : goal.put-requires
put-requires c =
    room-left {left = bytes ")"} c.requires.3
    (further (further (going _ _ _) c.put_head-inside.ensures) (rw c.whole_modes-whole.ensures at c.put_modes-last.ensures))

pub returns : goal.returns
returns c =
    finished
    (further (further (going _ _ _) c.put_head-inside.ensures) (rw c.whole_modes-whole.ensures at c.put_modes-last.ensures))
    c.put.ensures
