-- `print_lines::put_dropped` meets its contract, piece after piece. Assumes nothing.
use mathlib.Core.List.{List, ◌++◌}
use Prim.Native.Nat.{ℕ}
use Rattle.text.specs.Bytes.{bytes}
use Rattle.print_writing.proofs.Writing.{room-before}
use Rattle.print_writing.proofs.Going.{going, further, finished, room-left, room-first}
use Rattle.lines.specs.Stretches.{word_at, part}
use Rattle.lines.specs.Notes.{reason_for, index_words, dropped_line}
use Rattle.print_lines.proofs.put_dropped.Goals.{Start}
use Rattle.print_lines.proofs.put_dropped.Goals as goal

-- the pieces
abbrev which : Start → List ℕ
which s = index_words s.args.text.now s.args.index s.args.stretch.start

abbrev why : Start → List ℕ
why s = reason_for (word_at s.args.text.now s.args.stretch.start)

abbrev itself : Start → List ℕ
itself s = part s.args.text.now s.args.stretch.start s.args.stretch.end

pub put_index-a-requires : goal.put_index-a-requires
unfolding dropped_line
put_index-a-requires c =
    (c.requires.1, room-before c.args.at (which (goal.at.put_index-a-requires c).Start) (why (goal.at.put_index-a-requires c).Start ++ (itself (goal.at.put_index-a-requires c).Start ++ bytes "\n")) c.requires.2)

pub put_reason-b-requires : goal.put_reason-b-requires
unfolding dropped_line
put_reason-b-requires c =
    rw c.word_at-keyword.ensures (room-first (why (goal.at.put_reason-b-requires c).Start) (itself (goal.at.put_reason-b-requires c).Start ++ bytes "\n") c.requires.2 (further (going _ _ _) c.put_index-a.ensures))

pub put_all-c-requires : goal.put_all-c-requires
unfolding dropped_line
put_all-c-requires c =
    rw c.part_of-part.ensures
    (room-first (itself (goal.at.put_all-c-requires c).Start) (bytes "\n") c.requires.2
    (further (further (going _ _ _) c.put_index-a.ensures) (rw c.word_at-keyword.ensures at c.put_reason-b.ensures)))

pub put-requires : goal.put-requires
unfolding dropped_line
put-requires c =
    room-left c.requires.2
    (further (further (further (going _ _ _) c.put_index-a.ensures) (rw c.word_at-keyword.ensures at c.put_reason-b.ensures))
    (rw c.part_of-part.ensures at c.put_all-c.ensures))

pub returns : goal.returns
unfolding dropped_line
returns c =
    finished
    (further (further (further (going _ _ _) c.put_index-a.ensures) (rw c.word_at-keyword.ensures at c.put_reason-b.ensures))
    (rw c.part_of-part.ensures at c.put_all-c.ensures))
    c.put.ensures
