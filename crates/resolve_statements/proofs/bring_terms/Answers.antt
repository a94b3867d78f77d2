-- `resolve_statements::bring_terms` meets its contract.
-- Assumes nothing.
use Rattle.std.specs.Prelude as prelude
use Rattle.std.proofs.lemmas.Result.{err_from_is_err_and}
use mathlib.Core.Path.{refl, ◌∙◌, ap, subst}
use Rattle.resolve_features.specs.Terms.{CovariateAs}
use Rattle.resolve_statements.specs.Tallies.{BringAs, NoneStays}
use Rattle.resolve_statements.proofs.Stepping.{terms-added, dropped-added}
use Rattle.resolve_statements.proofs.bring_terms.Goals as goal

pub note-requires : goal.note-requires
note-requires c =
    (c.requires.6, c.requires.8)

pub returns-in-Some : goal.returns-in-Some
unfolding BringAs CovariateAs NoneStays
returns-in-Some c = record { bring_as = terms-added c.args.index c.args.tally c.args.dropped.now (subst (CovariateAs _ _ _ _ _) (c.in_ok-next.was ∙ ap prelude.Ok c.in-Some.is) c.bring_covariate.ensures); none_stays = (refl, refl) }

pub returns-in-None : goal.returns-in-None
unfolding BringAs CovariateAs NoneStays
returns-in-None c =
    let h = subst (CovariateAs _ _ _ _ _) (c.in_ok-next.was ∙ ap prelude.Ok c.in-None.is) c.bring_covariate.ensures in record { bring_as = dropped-added c.args.index c.args.tally h.0 h.1 c.note.ensures; none_stays = (c.note.ensures.stays, c.note.ensures.ground) }

pub returns-in_err-next : goal.returns-in_err-next
unfolding BringAs CovariateAs NoneStays
returns-in_err-next c =
    let p = err_from_is_err_and c.from_residual.result c.from_residual.ensures.1 in
    rw (p.1, p.2) (record { bring_as = (subst (CovariateAs _ _ _ _ _) c.in_err-next.was c.bring_covariate.ensures).0; none_stays = tt })
