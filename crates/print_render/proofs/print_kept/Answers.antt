-- `print_render::print_kept` meets its contract. Assumes nothing.
use Rattle.std.specs.Prelude.{Ok}
use mathlib.Core.Path.{◌∙◌, ap, subst}
use Rattle.print_render.specs.Text.{KeptAs}
use Rattle.print_render.proofs.Keeping.{kept_next}
use Rattle.print_render.proofs.print_kept.Goals as goal

pub returns-in-Ok-None : goal.returns-in-Ok-None
returns-in-Ok-None c =
    let a = c.args in
    kept_next a.limit a.text.now a.out.now c.print_within-2.new.out c.print_within-in-Ok-None.new.out
    (subst (KeptAs a.limit a.text.now a.out.now c.print_within-2.new.out) (c.in-Ok-None.is ∙ ap Ok c.in-Ok-None.field-0-is) c.print_within-2.ensures)
    c.print_within-in-Ok-None.result c.print_within-in-Ok-None.ensures
