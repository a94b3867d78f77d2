-- `print_lines::put_notes` meets its contract. The invariant: so many notes are written, a line each, and each line is short.
-- Assumes nothing.
use mathlib.Core.Path.{refl}
use mathlib.Core.List.{[]}
use native.Mathlib.Omega.{arith}
use borrow.Author.Rules.{rules}
use lib.ListN.{get_or}
use mir.Val.{Fits}
use mir.Syntax.{w8}
use Rattle.tokens.specs.Class.{class_of, class_table}
use Rattle.print_writing.proofs.Writing.{nothing_written, written_on}
use Rattle.lines.specs.Notes.{note_lines_behind}
use Rattle.print_lines.specs.Given.{note_in}
use Rattle.print_lines.proofs.Notes.{note_short, one_note_more}
use Rattle.print_lines.proofs.put_notes.Goals as goal

pub loop-note-init : goal.loop-note-init
unfolding note_lines_behind
loop-note-init c = (nothing_written _ _, omega arith)

pub put_note-at-requires : goal.put_note-at-requires
unfolding class_table class_of
put_note-at-requires c =
    let n = get_or c.args.notes.now c.loop-note.note-index [] in
    let h : Fits w8 (get_or n 1 0) = search rules in
    let s = note_short c.args.text.now c.requires.0 (note_in n) in
    (refl, c.requires.0, omega (arith, s, h.fits, c.put_all-behind.ensures.next, c.loop-note.invariant.1, c.loop-note-test.true, c.requires.1, c.requires.2))

pub loop-note-preserved : goal.loop-note-preserved
loop-note-preserved c =
    let n = get_or c.args.notes.now c.loop-note.note-index [] in
    let h : Fits w8 (get_or n 1 0) = search rules in
    let s = note_short c.args.text.now c.requires.0 (note_in n) in (
      rw (one_note_more c.args.word.now c.args.text.now c.args.notes.now c.loop-note.note-index c.loop-note-test.true)
          (written_on c.loop-note.invariant.0 (written_on c.put_all-behind.ensures c.put_note-at.ensures)),
      omega (arith, s, h.fits, c.put_note-at.ensures.next, c.put_all-behind.ensures.next, c.loop-note.invariant.1, c.requires.2),
    )
