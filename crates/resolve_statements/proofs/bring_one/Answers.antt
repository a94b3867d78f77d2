-- `resolve_statements::bring_one` meets its contract, statement by statement.
-- Assumes nothing.
use Rattle.read_forms.specs.declared.Fault.{Fault}
use borrow.Enum.Refused.{opened}
use Prim.Native.Nat.{ℕ}
use mathlib.Core.Path.{◌≡◌, refl, ◌∙◌, ap, subst}
use mathlib.Core.List.{List}
use Rattle.read_forms.specs.declared.Statement as forms
use Rattle.read_forms.specs.declared.Statement.TheVariants as statementForm
use Rattle.read_forms.specs.Forms.{feature_in, statement_in}
use Rattle.reading.specs.Answer.{Answer}
use Rattle.print_writing.proofs.Writing.{nothing_written}
use Rattle.resolving.specs.Brought.{Brought, defining, bring}
use Rattle.read_space.specs.Fit.{Fit}
use Rattle.resolve_statements.specs.declared.Tally.{Tally}
use Rattle.std.specs.Prelude as prelude
use Rattle.resolve_statements.specs.Tallies.{BringAs, PrintsAs, NoneStays}
use Rattle.resolve_statements.proofs.Stepping.{nothing-added, prints-known, prints-none}
use Rattle.resolve_statements.proofs.Fitting.{covariate-fits, feature-fits, feature-short, not-covariate}
use Rattle.resolve_statements.proofs.bring_one.Goals.{Start}
use Rattle.resolve_statements.proofs.bring_one.Goals as goal

-- the statement fits, whichever it is
module _ (s : Start) {st : forms.Statement} (e : s.args.statement ≡ st) where
  fits : Fit s.args.text.now st
  fits = subst (Fit s.args.text.now) e s.requires.5

pub bring_terms-requires : goal.bring_terms-requires
bring_terms-requires c =
    let y = covariate-fits c.args.text.now c.in-Covariate.optional c.in-Covariate.parameters c.in-Covariate.covariates c.in-Covariate.effects c.in-Covariate.op
    (fits (goal.at.bring_terms-requires c).Start (c.in-Feature.is ∙ ap statementForm.Feature c.in-Covariate.is)) in
    (c.requires.0, c.requires.3, c.requires.4, y.parameters, y.covariates, y.small, c.requires.6, c.requires.7, c.requires.10)

pub bring_other-requires : goal.bring_other-requires
bring_other-requires c =
    let y = fits (goal.at.bring_other-requires c).Start c.in-Feature.is in (
      c.requires.0,
      c.requires.1,
      c.requires.2,
      c.requires.3,
      c.requires.4,
      feature-fits c.args.text.now c.in-Feature.feature y,
      feature-short c.args.text.now c.in-Feature.feature y,
      not-covariate c.in-Feature.feature (opened c.in_default.in_default-own.keys2),
      c.requires.6,
      c.requires.8,
      c.requires.9,
      c.requires.10,
    )

-- a COVARIATE prints nothing
of_terms : (a : Answer Brought) (i : ℕ) (t : Tally) (ts ds ts' ds' out : List ℕ) (r : prelude.Result Tally Fault)
    → BringAs a i t ts ds ts' ds' r
    → NoneStays t r
    → PrintsAs a t out out r
unfolding BringAs NoneStays PrintsAs
of_terms a i t ts ds ts' ds' out (prelude.Ok u) w e = prints-none w e.0 e.1
of_terms a i t ts ds ts' ds' out (prelude.Err k) w e = tt

pub returns-in-Let : goal.returns-in-Let
unfolding BringAs PrintsAs bring statement_in
returns-in-Let c = record { bring_as = nothing-added c.args.index c.args.tally c.args.terms.now c.args.dropped.now (rw c.in-Let.is refl); prints_as = prints-known c.args.tally.stays {x = defining} (rw c.in-Let.is refl) (nothing_written _ _) }

pub returns-in-Covariate : goal.returns-in-Covariate
unfolding bring statement_in feature_in
returns-in-Covariate c =
    rw (c.in-Feature.is, c.in-Covariate.is) (record {
      bring_as = c.bring_terms.ensures.bring_as;
      prints_as = of_terms _ _ _ _ _ _ _ _ _ c.bring_terms.ensures.bring_as c.bring_terms.ensures.none_stays;
    })

pub returns-in_default : goal.returns-in_default
unfolding bring statement_in
returns-in_default c =
    rw c.in-Feature.is (record { bring_as = c.bring_other.ensures.by_index c.args.terms.now; prints_as = c.bring_other.ensures.prints_as })
