-- `resolve_statements::bring_other` meets its contract.
-- Assumes nothing.
use Rattle.std.specs.Prelude as prelude
use Rattle.std.proofs.lemmas.Result.{err_from_is_err_and}
use mathlib.Core.Path.{refl, ◌∙◌, ap, subst}
use native.Mathlib.Omega.{arith}
use Rattle.resolve_features.specs.Stays.{StayAs}
use Rattle.resolve_statements.specs.Tallies.{BringAs, PrintsAs}
use Rattle.resolve_statements.proofs.Stepping.{statement-added, dropped-added, prints_stood, prints-dropped}
use Rattle.resolve_statements.proofs.bring_other.Goals as goal

pub ground_feature-requires : goal.ground_feature-requires
ground_feature-requires c =
    (c.requires.0, c.requires.1, c.requires.2, c.requires.3, c.requires.4, c.requires.5, c.requires.6, c.requires.7, c.requires.9)

pub overflow_add-result : goal.overflow_add-result
overflow_add-result c =
    omega (arith, c.requires.10)

pub note-requires : goal.note-requires
note-requires c =
    (c.requires.8, c.requires.11)

pub returns-in-Some : goal.returns-in-Some
unfolding BringAs StayAs PrintsAs
returns-in-Some c =
    let h = subst (StayAs _ _ _ _ _) (c.in_ok-next.was ∙ ap prelude.Ok c.in-Some.is) c.ground_feature.ensures in record { by_index = λ ts. statement-added c.args.index c.args.tally ts c.args.dropped.now h; prints_as = prints_stood c.args.tally.stays h }

pub returns-in-None : goal.returns-in-None
unfolding BringAs StayAs PrintsAs
returns-in-None c =
    let h = subst (StayAs _ _ _ _ _) (c.in_ok-next.was ∙ ap prelude.Ok c.in-None.is) c.ground_feature.ensures in record { by_index = λ ts. dropped-added c.args.index c.args.tally h.0 refl c.note.ensures; prints_as = prints-dropped c.args.tally.stays h.0 h.1 c.note.ensures.ground }

pub returns-in_err-next : goal.returns-in_err-next
unfolding BringAs StayAs PrintsAs
returns-in_err-next c =
    let p = err_from_is_err_and c.from_residual.result c.from_residual.ensures.1 in
    rw (p.1, p.2) (record { by_index = λ ts. (subst (StayAs _ _ _ _ _) c.in_err-next.was c.ground_feature.ensures).0; prints_as = tt })
