-- `resolve_grounding::put_variables` meets its contract: the keyword with its `?` and its `(`, one argument, the `,`, the other, and the `)`.
-- Assumes nothing.
use Prim.Native.Nat.{ℕ}
use mathlib.Core.Bool.{Bool, not}
use mathlib.Core.List.{List, [], ◌++◌}
use lib.ListN.{get_or}
use Rattle.text.specs.Bytes.{bytes}
use Rattle.labels.specs.Label.{keywords}
use Rattle.read_forms.specs.Forms.{modes_in}
use Rattle.resolve_context.specs.Lists.{names_in}
use Rattle.print_statements.specs.Bytes.{head_of}
use Rattle.print_writing.proofs.Going.{going, further, finished, room-left, room-first}
use Rattle.resolve_grounding.specs.Listed.{either_bytes}
use Rattle.resolve_grounding.proofs.put_variables.Goals.{Start}
use Rattle.resolve_grounding.proofs.put_variables.Goals as goal

abbrev asked : (s : Start) → Bool → List ℕ
asked s t =
    either_bytes (names_in s.args.block.now s.args.lists.now s.args.names) s.args.list.now s.args.family
    (modes_in s.args.modes) t

-- what is left behind the head, behind the first argument, and behind the `,`
abbrev last : (s : Start) → List ℕ
last s = asked s (not s.args.named) ++ bytes ")"

abbrev later : (s : Start) → List ℕ
later s = bytes "," ++ last s

abbrev inside : (s : Start) → List ℕ
inside s = asked s s.args.named ++ later s

pub put_head-inside-requires : goal.put_head-inside-requires
put_head-inside-requires c = (
  c.requires.1,
  c.requires.4,
  room-first (head_of (get_or keywords c.args.keyword []) c.args.optional) (inside (goal.at.put_head-inside-requires c).Start) c.requires.5 (going c.args.out.now _ _),
)

pub put_either-first-requires : goal.put_either-first-requires
put_either-first-requires c = (
  c.requires.0,
  c.requires.2,
  c.requires.3,
  room-first (asked (goal.at.put_either-first-requires c).Start c.args.named) (later (goal.at.put_either-first-requires c).Start) c.requires.5 (further (going _ _ _) c.put_head-inside.ensures),
)

pub put-comma-requires : goal.put-comma-requires
put-comma-requires c =
    room-first (bytes ",") (last (goal.at.put-comma-requires c).Start) c.requires.5 (further (further (going _ _ _) c.put_head-inside.ensures) c.put_either-first.ensures)

pub put_either-second-requires : goal.put_either-second-requires
put_either-second-requires c = (
  c.requires.0,
  c.requires.2,
  c.requires.3,
  room-first (asked (goal.at.put_either-second-requires c).Start (not c.args.named)) (bytes ")") c.requires.5
      (further (further (further (going _ _ _) c.put_head-inside.ensures) c.put_either-first.ensures) c.put-comma.ensures),
)

pub put-requires : goal.put-requires
put-requires c =
    room-left {left = bytes ")"} c.requires.5
    (further (further (further (further (going _ _ _) c.put_head-inside.ensures) c.put_either-first.ensures) c.put-comma.ensures) c.put_either-second.ensures)

pub returns : goal.returns
returns c =
    finished
    (further (further (further (further (going _ _ _) c.put_head-inside.ensures) c.put_either-first.ensures) c.put-comma.ensures) c.put_either-second.ensures)
    c.put.ensures
