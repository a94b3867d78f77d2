-- `print_statements::put_also` meets its contract: the `,` and then the part, or nothing.
-- Assumes nothing.
use mathlib.Core.Path.{◌≡◌, ◌∙◌, sym}
use mathlib.Core.List.{◌++◌}
use Rattle.text.specs.Bytes.{bytes}
use Rattle.tokens.specs.Spelling.{spell_all}
use Rattle.canonical.specs.Canonical.{argument_shapes}
use Rattle.print_writing.proofs.Writing.{nothing_written}
use Rattle.print_writing.proofs.Going.{going, further, finished}
use Rattle.print_statements.specs.Bytes.{behind, shapes_in}
use Rattle.print_statements.proofs.Bytes.{no_shapes, some_shapes_lem}
use Rattle.print_statements.proofs.put_also.Goals.{Then-prints}
use Rattle.print_statements.proofs.put_also.Goals as goal

led :
    (c : Then-prints)
    → (let a = c.args in
    spell_all (behind (shapes_in a.text.now a.part)) ≡ bytes "," ++ spell_all (argument_shapes (shapes_in a.text.now a.part)))
led c =
    let a = c.args in
    some_shapes_lem (shapes_in a.text.now a.part) (sym (c.prints.ensures a.text.now) ∙ c.if-prints.true)

pub returns-then-prints : goal.returns-then-prints
returns-then-prints c =
    rw (led (goal.at.returns-then-prints c).Then-prints) (finished (further (going _ _ _) c.put-next.ensures) c.put_part.ensures)

pub returns : goal.returns
returns c =
    let a = c.args in
    rw (no_shapes (shapes_in a.text.now a.part) (sym (c.prints.ensures a.text.now) ∙ c.if-prints.false)) (nothing_written _ _)
