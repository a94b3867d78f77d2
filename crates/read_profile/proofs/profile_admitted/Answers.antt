-- `read_profile::profile_admitted` meets its contract: the statements that were read are judged, and a refusal is the text's.
-- Assumes nothing.
use Rattle.std.specs.Prelude.{Err}
use Rattle.std.proofs.Common.{rules}
use mathlib.Core.Path.{◌≡◌, ◌∙◌}
use Rattle.read_space.proofs.Endings.{read-accepted, read-refused}
use Rattle.read_space.proofs.Fitting.{space_fits}
use Rattle.read_profile.specs.Answers.{profiled_as}
use Rattle.read_profile.proofs.Answering.{refused_so, accepted_so}
use Rattle.read_profile.proofs.profile_admitted.Goals as goal

pub first_fault-requires : goal.first_fault-requires
first_fault-requires c =
    let h = c.read_space-space.ensures in (
      c.requires.0,
      h.1,
      space_fits c.args.limit c.args.text.now c.read_space-space.result h.1
          (read-accepted _ _ c.read_space-space.result h.0 c.in_ok-space.was),
    )

pub returns-in_err-space : goal.returns-in_err-space
unfolding profiled_as
returns-in_err-space c =
    let a = c.args in
    let r = c.in_err-space.field-0.0 in
    let told : c.from_residual.result ≡ Err r = search rules in
    rw told (refused_so a.limit a.text.now _ _ (read-refused _ _ c.read_space-space.result c.read_space-space.ensures.0 r c.in_err-space.was))

pub returns : goal.returns
returns c =
    let a = c.args in
    c.first_fault.ensures
    ∙ accepted_so a.limit a.text.now _ (read-accepted _ _ c.read_space-space.result c.read_space-space.ensures.0 c.in_ok-space.was)
