-- `numbers_all::put_short` meets its contract: the statements that were read are measured and written, and a refusal is the text's.
-- Assumes nothing.
use Rattle.read_space.proofs.Endings.{read-accepted, read-refused}
use Rattle.numbers_all.proofs.Answering.{refused_answers, accepted_answers}
use Rattle.numbers_all.proofs.put_short.Goals as goal
use Rattle.read_forms.specs.Faults.{answered, same}
use Rattle.std.specs.Prelude.{Err}
use Rattle.std.proofs.Common.{rules, ◌≡◌}

pub put_measured-requires : goal.put_measured-requires
put_measured-requires c =
    let h = c.read_space-space.ensures in
    (c.requires.0, h.1, record { limit = c.args.limit; read = read-accepted _ _ c.read_space-space.result h.0 c.in_ok-space.was })

pub returns-in_err-space : goal.returns-in_err-space
returns-in_err-space c =
    let a = c.args in
    let told : c.from_residual.result ≡ Err c.in_err-space.field-0.0 = search rules in
    rw told
    (refused_answers a.limit a.text.now a.out.now c.in_err-space.field-0.0
    (read-refused _ _ c.read_space-space.result c.read_space-space.ensures.0 c.in_err-space.field-0.0 c.in_err-space.was))

pub returns : goal.returns
returns c =
    let a = c.args in
    accepted_answers a.limit a.text.now a.out.now _ _ (answered same c.put_measured.result)
    (read-accepted _ _ c.read_space-space.result c.read_space-space.ensures.0 c.in_ok-space.was)
    c.put_measured.ensures
