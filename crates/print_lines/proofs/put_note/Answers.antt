-- `print_lines::put_note` meets its contract: its test is the definition's. Assumes nothing.
use Rattle.lines.specs.Notes.{additive_line}
use Rattle.print_writing.proofs.Writing.{room-same}
use Rattle.print_lines.specs.Given.{note_of}
use Rattle.print_lines.proofs.Notes.{dropped_note, additive_note_lem}
use Rattle.print_lines.proofs.put_note.Goals as goal

pub put_dropped-requires : goal.put_dropped-requires
put_dropped-requires c = (
  c.requires.0,
  c.requires.1,
  rw c.stretch_at-stretch.ensures
      (room-same c.args.at (dropped_note c.args.text.now (note_of c.args.reason c.args.index) c.if-reason-eq0.true) c.requires.2),
)

pub returns-then-reason-eq0 : goal.returns-then-reason-eq0
returns-then-reason-eq0 c =
    rw (dropped_note c.args.text.now (note_of c.args.reason c.args.index) c.if-reason-eq0.true) (rw c.stretch_at-stretch.ensures at c.put_dropped.ensures)

pub put_all-requires : goal.put_all-requires
unfolding additive_line
put_all-requires c =
    room-same c.args.at (additive_note_lem c.args.text.now (note_of c.args.reason c.args.index) c.if-reason-eq0.false) c.requires.2

pub returns : goal.returns
unfolding additive_line
returns c =
    rw (additive_note_lem c.args.text.now (note_of c.args.reason c.args.index) c.if-reason-eq0.false) c.put_all.ensures
