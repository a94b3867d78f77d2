-- `print_lines::put_index` meets its contract, piece after piece. Assumes nothing.
use mathlib.Core.List.{List, ◌++◌}
use Prim.Native.Nat.{ℕ}
use Rattle.text.specs.Bytes.{bytes}
use Rattle.counts.specs.Decimal.{digits_of}
use Rattle.print_writing.proofs.Going.{going, further, finished, room-left, room-first}
use Rattle.lines.specs.Stretches.{line_at}
use Rattle.lines.specs.Notes.{index_words}
use Rattle.print_lines.proofs.put_index.Goals.{Start}
use Rattle.print_lines.proofs.put_index.Goals as goal

-- the pieces behind the index, and behind the line
abbrev line : Start → List ℕ
line s = digits_of (line_at s.args.text.now s.args.start)

pub put_all-a-requires : goal.put_all-a-requires
unfolding index_words
put_all-a-requires c =
    room-first (bytes "statement ") (digits_of c.args.index ++ (bytes ", line " ++ (line (goal.at.put_all-a-requires c).Start ++ bytes ": "))) c.requires.1 (going c.args.out.now _ _)

pub put_number-b-requires : goal.put_number-b-requires
unfolding index_words
put_number-b-requires c =
    room-first (digits_of c.args.index) (bytes ", line " ++ (line (goal.at.put_number-b-requires c).Start ++ bytes ": ")) c.requires.1 (further (going _ _ _) c.put_all-a.ensures)

pub put_all-c-requires : goal.put_all-c-requires
unfolding index_words
put_all-c-requires c =
    room-first (bytes ", line ") (line (goal.at.put_all-c-requires c).Start ++ bytes ": ") c.requires.1 (further (further (going _ _ _) c.put_all-a.ensures) c.put_number-b.ensures)

pub put_number-d-requires : goal.put_number-d-requires
unfolding index_words
put_number-d-requires c =
    rw c.line_at-line.ensures
    (room-first (line (goal.at.put_number-d-requires c).Start) (bytes ": ") c.requires.1
    (further (further (further (going _ _ _) c.put_all-a.ensures) c.put_number-b.ensures) c.put_all-c.ensures))

pub put_all-requires : goal.put_all-requires
unfolding index_words
put_all-requires c =
    room-left c.requires.1
    (further (further (further (further (going _ _ _) c.put_all-a.ensures) c.put_number-b.ensures) c.put_all-c.ensures)
    (rw c.line_at-line.ensures at c.put_number-d.ensures))

pub returns : goal.returns
unfolding index_words
returns c =
    finished
    (further (further (further (further (going _ _ _) c.put_all-a.ensures) c.put_number-b.ensures) c.put_all-c.ensures)
    (rw c.line_at-line.ensures at c.put_number-d.ensures))
    c.put_all.ensures
