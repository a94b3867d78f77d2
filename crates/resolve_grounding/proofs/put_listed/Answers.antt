-- `resolve_grounding::put_listed` meets its contract: bare if it is one name, else `[`, the names, `]`.
-- Assumes nothing.
use Prim.Native.Nat.{ℕ}
use mathlib.Core.List.{List, ◌++◌}
use Rattle.text.specs.Bytes.{bytes}
use Rattle.resolve_context.specs.Lists.{names_in}
use Rattle.print_writing.proofs.Writing.{room-same}
use Rattle.print_writing.proofs.Going.{going, further, finished, room-left, room-first}
use Rattle.resolve_grounding.specs.Listed.{listed_bytes}
use Rattle.resolve_grounding.proofs.Names.{one-listed, more-listed}
use Rattle.resolve_grounding.proofs.put_listed.Goals.{Start}
use Rattle.resolve_grounding.proofs.put_listed.Goals as goal

abbrev own : (s : Start) → List (List ℕ)
own s = names_in s.args.block.now s.args.lists.now s.args.names

pub put_names_at-requires : goal.put_names_at-requires
put_names_at-requires c =
    (c.requires.0, c.requires.1, room-same c.args.at (one-listed (own (goal.at.put_names_at-requires c).Start) c.args.list.now c.if-list-eq1.true) c.requires.2)

pub returns-then-list-eq1 : goal.returns-then-list-eq1
returns-then-list-eq1 c =
    rw (one-listed (own (goal.at.returns-then-list-eq1 c).Start) c.args.list.now c.if-list-eq1.true) c.put_names_at.ensures

pub put-first-requires : goal.put-first-requires
put-first-requires c =
    room-first (bytes "[") (listed_bytes (own (goal.at.put-first-requires c).Start) c.args.list.now ++ bytes "]")
    (room-same c.args.at (more-listed (own (goal.at.put-first-requires c).Start) c.args.list.now c.if-list-eq1.false) c.requires.2)
    (going c.args.out.now c.args.at _)

pub put_names_at-last-requires : goal.put_names_at-last-requires
put_names_at-last-requires c = (
  c.requires.0,
  c.requires.1,
  room-first (listed_bytes (own (goal.at.put_names_at-last-requires c).Start) c.args.list.now) (bytes "]")
      (room-same c.args.at (more-listed (own (goal.at.put_names_at-last-requires c).Start) c.args.list.now c.if-list-eq1.false) c.requires.2)
      (further (going _ _ _) c.put-first.ensures),
)

pub put-requires : goal.put-requires
put-requires c =
    room-left {left = bytes "]"} (room-same c.args.at (more-listed (own (goal.at.put-requires c).Start) c.args.list.now c.if-list-eq1.false) c.requires.2)
    (further (further (going _ _ _) c.put-first.ensures) c.put_names_at-last.ensures)

pub returns : goal.returns
returns c =
    rw (more-listed (own (goal.at.returns c).Start) c.args.list.now c.if-list-eq1.false)
    (finished (further (further (going _ _ _) c.put-first.ensures) c.put_names_at-last.ensures) c.put.ensures)
