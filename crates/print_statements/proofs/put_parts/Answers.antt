-- `print_statements::put_parts` meets its contract: the keyword with its `?` and its `(`, the parts, and the `)`.
-- Assumes nothing.
use mathlib.Core.List.{List, []}
use Prim.Native.Nat.{ℕ}
use lib.ListN.{get_or}
use Rattle.text.specs.Bytes.{bytes}
use Rattle.tokens.specs.Spelling.{spell_all}
use Rattle.labels.specs.Label.{keywords}
use Rattle.canonical.specs.Canonical.{argument_shapes}
use Rattle.print_writing.specs.Written.{Room}
use Rattle.print_writing.proofs.Writing.{room-same}
use Rattle.print_writing.proofs.Going.{going, further, finished, room-left, room-first}
use Rattle.print_statements.specs.Bytes.{head_of, behind, shapes_in}
use Rattle.print_statements.proofs.Bytes.{first, second, third, fourth, pieces, parts_bytes}
use Rattle.print_statements.proofs.put_parts.Goals.{Start}
use Rattle.print_statements.proofs.put_parts.Goals as goal

abbrev text : Start → List ℕ
text a = a.args.text.now

room : (a : Start) → Room a.args.at (pieces (text a) a.args.parts)
room a = room-same a.args.at (parts_bytes (text a) a.args.parts a.requires.4) a.requires.6

pub put_head-inside-requires : goal.put_head-inside-requires
put_head-inside-requires c =
    let r = c.args.parts in (
      c.requires.2,
      c.requires.5,
      room-first (head_of (get_or keywords r.keyword []) r.optional) (first (text (goal.at.put_head-inside-requires c).Start) r) (room (goal.at.put_head-inside-requires c).Start) (going c.args.out.now _ _),
    )

pub put_part-first-requires : goal.put_part-first-requires
put_part-first-requires c =
    let r = c.args.parts in (
      c.requires.0,
      c.requires.1,
      c.requires.3.first,
      room-first (spell_all (argument_shapes (shapes_in (text (goal.at.put_part-first-requires c).Start) r.first))) (second (text (goal.at.put_part-first-requires c).Start) r) (room (goal.at.put_part-first-requires c).Start)
          (further (going _ _ _) c.put_head-inside.ensures),
    )

pub put_also-second-requires : goal.put_also-second-requires
put_also-second-requires c =
    let r = c.args.parts in (
      c.requires.0,
      c.requires.1,
      c.requires.3.second,
      room-first (spell_all (behind (shapes_in (text (goal.at.put_also-second-requires c).Start) r.second))) (third (text (goal.at.put_also-second-requires c).Start) r) (room (goal.at.put_also-second-requires c).Start)
          (further (further (going _ _ _) c.put_head-inside.ensures) c.put_part-first.ensures),
    )

pub put_also-third-requires : goal.put_also-third-requires
put_also-third-requires c =
    let r = c.args.parts in (
      c.requires.0,
      c.requires.1,
      c.requires.3.third,
      room-first (spell_all (behind (shapes_in (text (goal.at.put_also-third-requires c).Start) r.third))) (fourth (text (goal.at.put_also-third-requires c).Start) r) (room (goal.at.put_also-third-requires c).Start)
          (further (further (further (going _ _ _) c.put_head-inside.ensures) c.put_part-first.ensures) c.put_also-second.ensures),
    )

pub put_also-last-requires : goal.put_also-last-requires
put_also-last-requires c =
    let r = c.args.parts in (
      c.requires.0,
      c.requires.1,
      c.requires.3.fourth,
      room-first (spell_all (behind (shapes_in (text (goal.at.put_also-last-requires c).Start) r.fourth))) (bytes ")") (room (goal.at.put_also-last-requires c).Start)
          (further (further (further (further (going _ _ _) c.put_head-inside.ensures) c.put_part-first.ensures) c.put_also-second.ensures)
          c.put_also-third.ensures),
    )

pub put-requires : goal.put-requires
put-requires c =
    room-left {left = bytes ")"} (room (goal.at.put-requires c).Start)
    (further
    (further (further (further (further (going _ _ _) c.put_head-inside.ensures) c.put_part-first.ensures) c.put_also-second.ensures)
    c.put_also-third.ensures)
    c.put_also-last.ensures)

pub returns : goal.returns
returns c =
    rw (parts_bytes (text (goal.at.returns c).Start) c.args.parts c.requires.4)
    (finished
    (further
    (further (further (further (further (going _ _ _) c.put_head-inside.ensures) c.put_part-first.ensures) c.put_also-second.ensures)
    c.put_also-third.ensures)
    c.put_also-last.ensures)
    c.put.ensures)
