-- `print_render::print_twice` meets its contract: what Count refuses is refused, and else the statements are printed. Assumes nothing.
use Rattle.std.specs.Prelude.{Err}
use Rattle.std.proofs.Common.{rules}
use mathlib.Core.Path.{◌≡◌, ◌∙◌, ap, sym}
use Rattle.reading.specs.Read.{read_text}
use Rattle.read_forms.specs.Faults.{answered, same}
use Rattle.reading_laws.proofs.Calls.{counted-accepted, counted-refused}
use Rattle.print_render.proofs.Answering.{refused_answers}
use Rattle.print_render.proofs.print_twice.Goals as goal

pub print_accepted-requires : goal.print_accepted-requires
print_accepted-requires c =
    let x = counted-accepted 0 _ (read_text c.args.limit c.args.text.now) (sym c.count_under.ensures ∙ ap (answered same) c.in_ok-_count.was) in
    (c.requires.0, c.requires.1, c.requires.2, record { statements = x.0; read = x.1 })

pub returns-in_err-_count : goal.returns-in_err-_count
returns-in_err-_count c =
    let a = c.args in
    let told : c.from_residual.result ≡ Err c.in_err-_count.field-0.0 = search rules in
    rw told
    (refused_answers a.limit a.text.now _ c.in_err-_count.field-0.0
    (counted-refused 0 _ _ (read_text a.limit a.text.now) (sym c.count_under.ensures ∙ ap (answered same) c.in_err-_count.was)))
