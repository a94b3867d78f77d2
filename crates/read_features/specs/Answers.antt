-- What the functions that build a feature answer, as answers of the definition of reading.
use Rattle.std.specs.Prelude.{ℕ, Bool, cond, List, ◌≡◌, eqb, Result}
use Rattle.std.proofs.Math.Option.{Option, some, none}
use Rattle.std.proofs.Math.ListN.{get_elem?}
use Rattle.labels.specs.declared.Family.{Family}
use Rattle.labels.specs.declared.Family.TheVariants.{
  AbsorptionMode,
  EliminationMode,
  LagtimeMode,
  CovariateEffect,
  PdMode,
  MetaboliteMode,
  VariabilityEffect,
}
use Rattle.reading.specs.Statement as statement
use Rattle.reading.specs.Statement.{Name, Modes, Operand, Feature}
use Rattle.reading.specs.Answer.{Answer, accepted, ◌>>=◌}
use Rattle.reading.specs.Argument.{Arg, modes_of, operand_of}
use Rattle.reading.specs.Feature.{Keyword, features, two, explicit, operator_of, feature_of, known_feature}
use Rattle.read_forms.specs.declared.Args.{Args}
use Rattle.read_forms.specs.Forms.{arg_in, args_in, modes_in, operand_in, feature_in}
use Rattle.read_forms.specs.declared.Refusal.{Refusal}
use Rattle.read_forms.specs.declared.Feature as form
use Rattle.read_forms.specs.Faults.{answered}
use Rattle.read_features.specs.declared.Variability as read
use Rattle.read_features.specs.declared.Alone.{Alone}
use Rattle.read_features.specs.declared.Alone.TheVariants.{Absorption, Elimination, Lagtime, DirectEffect, EffectComp, Metabolite}

-- the two arguments of IIV and IOV
pub record Eta : Type 0 where
  pub parameters : Operand
  pub effects : Modes

abbrev pub eta_in : List ℕ → read.Variability → Eta
eta_in s e = record { parameters = operand_in s e.parameters; effects = modes_in e.effects }

abbrev pub eta_of : Name → List Arg → Answer Eta
eta_of k args =
    two k args λ p e. do
      ps ← operand_of p
      es ← modes_of VariabilityEffect e
      accepted (record { parameters = ps; effects = es })

-- the effects of COVARIATE, which are not the mandatory `*`
abbrev pub effects_of : Bool → Arg → Answer Modes
effects_of m a = modes_of CovariateEffect a >>= explicit m a

-- COVARIATE of parameters and covariates that are read
abbrev pub covariate_with : Bool → Operand → Operand → Arg → Option Arg → Answer Feature
covariate_with m ps cs e o = do
  es ← effects_of m e
  op ← operator_of o
  accepted (statement.Covariate m ps cs es op)

-- the second of one or two arguments, and the fourth of three or four
unfoldable pub second_in : List ℕ → Args → Option Arg
second_in s xs = cond (eqb xs.count 1) none (some (arg_in s xs.second))

unfoldable pub fourth_in : List ℕ → Args → Option Arg
fourth_in s xs = cond (eqb xs.count 3) none (some (arg_in s xs.fourth))

-- a feature of one argument, which is modes of a family
abbrev pub family_of : Alone → Family
family_of Absorption = AbsorptionMode
family_of Elimination = EliminationMode
family_of Lagtime = LagtimeMode
family_of DirectEffect = PdMode
family_of EffectComp = PdMode
family_of Metabolite = MetaboliteMode

abbrev pub feature_with : Alone → Modes → Feature
feature_with Absorption m = statement.Absorption m
feature_with Elimination m = statement.Elimination m
feature_with Lagtime m = statement.Lagtime m
feature_with DirectEffect m = statement.DirectEffect m
feature_with EffectComp m = statement.EffectComp m
feature_with Metabolite m = statement.Metabolite m

-- What is built is the feature of a keyword at an offset. Of the keyword as the text writes it, only the offset matters.
abbrev pub Builds : List ℕ → ℕ → Keyword → Bool → ℕ → Args → Result form.Feature Refusal → Type 0
Builds s limit w m o xs r = (k : Name) → k.place ≡ o → answered (feature_in s) r ≡ feature_of limit w k m (args_in s xs)

-- likewise, the keyword by its place in the table
abbrev pub BuildsKnown : List ℕ → ℕ → ℕ → Bool → ℕ → Args → Result form.Feature Refusal → Type 0
BuildsKnown s limit i m o xs r =
    (k : Name) → k.place ≡ o → answered (feature_in s) r ≡ known_feature limit (get_elem? features i) k m (args_in s xs)
