-- `print_lines::line_at` meets its contract. The invariant: the line is 1 and the newlines so far. Assumes nothing.
use mathlib.Core.Path.{◌≡◌, ◌∙◌, ap}
use native.Mathlib.Omega.{arith}
use lib.ListN.{length, take}
use Rattle.std.proofs.lemmas.List.{length-take}
use Rattle.print_lines.proofs.Notes.{lines_to, lines-all, lines-few}
use Rattle.print_lines.proofs.line_at.Goals as goal

pub returns : goal.returns
returns c =
    let t = take c.min.result c.args.text.now in
    let e : c.loop-byte.byte-index ≡ length t = omega (arith, c.loop-byte-test.false, c.loop-byte.auto.byte-index-end) in
    c.loop-byte.invariant ∙ ap (lines_to t) e
    ∙ rw c.min.ensures (lines-all c.args.text.now c.args.offset)

pub overflow_add-line : goal.overflow_add-line
overflow_add-line c =
    let t = take c.min.result c.args.text.now in
    let i = c.loop-byte-test.true in
    let f = lines-few t c.loop-byte.byte-index (omega (arith, i)) in
    let l = length-take c.min.result c.args.text.now in
    record { fits = omega (arith, c.loop-byte.invariant, f, i, l, c.requires) }
