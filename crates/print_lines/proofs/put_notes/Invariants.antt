-- So many notes are written, a line each, and each line is short.
use Prim.Native.Nat.{◌*◌, ◌≤◌}
use mathlib.Core.List.{map}
use lib.ListN.{take}
use Rattle.print_writing.specs.Written.{Written}
use Rattle.lines.specs.Notes.{note_lines_behind}
use Rattle.print_lines.specs.Given.{note_in}
use Rattle.print_lines.proofs.put_notes.Given as goal

abbrev pub invariant-loop-note : goal.invariant-loop-note
invariant-loop-note l = Written l.initial.page 0 (note_lines_behind l.word l.text (map note_in (take l.note-index l.notes))) l.page l.at × (l.at ≤ 20400 * l.note-index)
