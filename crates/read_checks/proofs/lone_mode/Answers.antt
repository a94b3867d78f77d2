-- `read_checks::lone_mode` meets its contract: a word alone stands alone in its number. Assumes nothing.
use mathlib.Core.Path.{◌∙◌, sym}
use Prim.Native.Nat.{◌<◌}
use native.Mathlib.Omega.{arith}
use Rattle.labels.specs.Word.{find}
use Rattle.read_checks.proofs.Judging.{found_some}
use Rattle.read_checks.proofs.Modes.{found-small}
use Rattle.read_checks.proofs.Arguments.{lone_found, lone_unknown}
use Rattle.read_checks.proofs.lone_mode.Goals.{In-Some}
use Rattle.read_checks.proofs.lone_mode.Goals as goal

small : (c : In-Some) → c.in-Some.place < 7
small c =
    found-small _ _ _ (found_some (find _ _) _ (sym c.in-Some.is ∙ c.mode_at.ensures))

pub overflow_cast-result : goal.overflow_cast-result
overflow_cast-result c = record { fits = omega (arith, small (goal.at.overflow_cast-result c).In-Some) }

pub overflow_add-result : goal.overflow_add-result
overflow_add-result c = record { fits = omega (arith, small (goal.at.overflow_add-result c).In-Some) }

pub returns : goal.returns
returns c =
    let a = c.args in
    lone_found a.family a.text.now a.name _ (sym c.in-Some.is ∙ c.mode_at.ensures)

pub returns-in_default : goal.returns-in_default
returns-in_default c =
    let a = c.args in
    lone_unknown a.family a.text.now a.name (sym c.in_default.is ∙ c.mode_at.ensures)
