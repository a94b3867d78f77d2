-- `print_lines::part_of` meets its contract: nothing, or the part up to the text's end. Assumes nothing.
use Prim.Native.Nat.{ℕ, ◌-◌}
use mathlib.Core.Path.{◌∙◌, ap, sym}
use native.Mathlib.Omega.{arith}
use lib.ListN.{take, drop}
use Rattle.print_lines.proofs.Notes.{part_none, part_reached}
use Rattle.print_lines.proofs.part_of.Goals as goal

pub returns-then-end-from : goal.returns-then-end-from
returns-then-end-from c =
    let a = c.args in
    sym (part_none a.text.now a.from a.to (omega (arith, c.min-end.ensures, c.if-end-from.true)))

pub returns : goal.returns
returns c =
    let a = c.args in
    ap (λ (n : ℕ). take (n - a.from) (drop a.from a.text.now)) c.min-end.ensures ∙ part_reached a.text.now a.from a.to
