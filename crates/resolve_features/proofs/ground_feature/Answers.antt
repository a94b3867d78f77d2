-- `resolve_features::ground_feature` meets its contract, arm by arm.
-- Assumes nothing.
use mathlib.Core.Path.{◌≡◌, refl, ◌∙◌, sym, subst}
use borrow.Enum.Refused.{opened}
use native.Mathlib.Omega.{arith}
use Rattle.labels.specs.Label.{keywords}
use Rattle.read_forms.specs.declared.Feature as forms
use Rattle.read_forms.specs.declared.Statement.TheVariants as statement
use Rattle.read_forms.specs.Forms.{feature_in}
use Rattle.read_parts.specs.Apart.{apart, feature_apart}
use Rattle.read_parts.specs.Meaning.{PartsFit}
use Rattle.resolve_grounding.proofs.Features.{Whole}
use Rattle.resolve_features.specs.Stays.{StayAs}
use Rattle.resolve_features.proofs.Variables.{piece-room}
use Rattle.resolve_features.proofs.Staying.{whole_of, whole-short, whole_stood, comes, iiv-stay, iov-stay, covariance-stay, allometry_whole, allometry_fault, other-whole}
use Rattle.resolve_features.proofs.ground_feature.Goals.{Joined-feature, Start, in-Allometry+else-not-is_covariate, in_default}
use Rattle.resolve_features.proofs.ground_feature.Goals as goal

-- a feature of the arm, in place of what was matched
module _ (s : Start) {g : forms.Feature} (e : s.args.feature ≡ g) where
  fits : PartsFit s.args.text.now (apart (statement.Feature g))
  fits = subst (λ (f : forms.Feature). PartsFit s.args.text.now (apart (statement.Feature f))) e s.requires.5

pub is_covariate-requires : goal.is_covariate-requires
unfolding apart feature_apart
is_covariate-requires c =
    (c.requires.3, (fits (goal.at.is_covariate-requires c).Start c.in-Allometry.is).first)

pub returns-then-not-is_covariate : goal.returns-then-not-is_covariate
unfolding StayAs
returns-then-not-is_covariate c = (
  rw c.in-Allometry.is
      (allometry_fault c.args.text.now c.args.block.now c.args.lists.now c.args.lets.now c.args.n c.in-Allometry.covariate c.in-Allometry.reference
      (sym (c.if-not-is_covariate.true) ∙ c.is_covariate.ensures)),
  refl,
)

pub stay_variables-requires : goal.stay_variables-requires
unfolding keywords apart feature_apart
stay_variables-requires c =
    (c.requires.0, c.requires.1, c.requires.2, c.requires.3.is, c.requires.4, (fits (goal.at.stay_variables-requires c).Start c.in-Iiv.is).first, omega arith, c.requires.8)

pub stay_variables-requires-in-Iov : goal.stay_variables-requires-in-Iov
unfolding keywords apart feature_apart
stay_variables-requires-in-Iov c =
    (c.requires.0, c.requires.1, c.requires.2, c.requires.3.is, c.requires.4, (fits (goal.at.stay_variables-requires-in-Iov c).Start c.in-Iov.is).first, omega arith, c.requires.8)

pub stay_variables-requires-in-Covariance : goal.stay_variables-requires-in-Covariance
unfolding keywords apart feature_apart
stay_variables-requires-in-Covariance c =
    (c.requires.0, c.requires.1, c.requires.2, c.requires.3.is, c.requires.4, (fits (goal.at.stay_variables-requires-in-Covariance c).Start c.in-Covariance.is).second, omega arith, c.requires.8)

pub returns-in-Iiv : goal.returns-in-Iiv
returns-in-Iiv c =
    rw c.in-Iiv.is
    (iiv-stay c.args.text.now c.args.block.now c.args.lists.now c.args.lets.now c.args.n c.args.before c.args.out.now
    c.args.at _ c.in-Iiv.optional c.in-Iiv.parameters c.in-Iiv.effects c.stay_variables.result c.stay_variables.ensures)

pub returns-in-Iov : goal.returns-in-Iov
returns-in-Iov c =
    rw c.in-Iov.is
    (iov-stay c.args.text.now c.args.block.now c.args.lists.now c.args.lets.now c.args.n c.args.before c.args.out.now
    c.args.at _ c.in-Iov.optional c.in-Iov.parameters c.in-Iov.effects c.stay_variables-in-Iov.result c.stay_variables-in-Iov.ensures)

pub returns-in-Covariance : goal.returns-in-Covariance
returns-in-Covariance c =
    rw c.in-Covariance.is
    (covariance-stay c.args.text.now c.args.block.now c.args.lists.now c.args.lets.now c.args.n c.args.before c.args.out.now
    c.args.at _ c.in-Covariance.optional c.in-Covariance.level c.in-Covariance.parameters c.stay_variables-in-Covariance.result c.stay_variables-in-Covariance.ensures)

-- an arm that takes the feature's fields makes it anew, from the same
feature-kept : (c : Joined-feature) → c.match-feature.feature ≡ c.args.feature
feature-kept c =
    elim c.match-feature.branch [
      | in-Allometry+else-not-is_covariate w ↦ w.feature-is ∙ sym w.in-Allometry.is
      | in_default w ↦ w.feature-is
    ]

abbrev Stays : Start → forms.Feature → Type 0
Stays s f =
    Whole (comes s.args.text.now s.args.block.now s.args.lists.now s.args.lets.now s.args.n f) (feature_in s.args.text.now f)

stays-whole : (c : Joined-feature) → Stays (goal.at.Joined-feature c).Start c.args.feature
stays-whole c =
    let a = c.args in
    elim c.match-feature.branch [
      | in-Allometry+else-not-is_covariate w ↦
          subst (Stays (goal.at.Joined-feature c).Start) (sym w.in-Allometry.is)
          (allometry_whole a.text.now a.block.now a.lists.now a.lets.now a.n w.in-Allometry.covariate w.in-Allometry.reference
          (sym w.if-not-is_covariate.false ∙ w.is_covariate.ensures))
      | in_default w ↦
          other-whole a.text.now a.block.now a.lists.now a.lets.now a.n a.feature (opened w.in_default.in_default-own.keys5) c.requires.7
    ]

pub put_whole-requires : goal.put_whole-requires
put_whole-requires c =
    let f = c.args.feature in
    rw (feature-kept (goal.at.put_whole-requires c).Joined-feature) (
      c.requires.0,
      c.requires.1,
      c.requires.2,
      c.requires.5,
      piece-room c.args.before (whole_of c.args.text.now f) (whole-short c.args.text.now f c.requires.6) c.args.at c.requires.8,
    )

pub returns : goal.returns
unfolding StayAs
returns c =
    whole_stood c.args.text.now c.args.feature c.args.before c.requires.6 (stays-whole (goal.at.returns c).Joined-feature) (rw (feature-kept (goal.at.returns c).Joined-feature) at c.put_whole.ensures)
